use Rattle.std.proofs.Common.{length, ltb, arith}
use Rattle.table.specs.Meaning.{expansions_of}
use Rattle.keys.proofs.Entering.{enough, key_fits, room_each}
use Rattle.keys.proofs.sort_key.has_room.Goals as goal

pub returns-then-name-room : goal.returns-then-name-room
returns-then-name-room c =
    let k = key_fits c.args.table.now c.args.name.now in
    let m = room_each (ltb 0 (length (expansions_of c.args.table.now))) c.most_each.result (length c.args.name.now) c.args.room c.most_each.ensures.0 c.if-room-ge2.true c.if-name-room.true in
    enough _ c.args.room (omega arith)
