use Rattle.std.proofs.Common.{rules, ◌≡◌, ◌++◌, ◌∷◌, [], length}
use Rattle.keys.specs.Rows.{key}
use Rattle.table.specs.Meaning.{rules_of}
use Rattle.catalogue.proofs.Keys.{key_more}
use Rattle.catalogue.specs.Lists.{name_of}
use Rattle.catalogue.proofs.names.Names.keys.Goals as goal

pub loop-number-preserved : goal.loop-number-preserved
loop-number-preserved c =
    let k = key (rules_of c.args.table.now) (name_of c.args.self.now.text.now c.args.self.now.starts.now c.loop-number.number) in
    let e : c.push_key.new.numbers.items ≡ c.loop-number.numbers.items ++ k = search rules in
    let f : c.push-in-loop-number.new.self.items ≡ c.loop-number.bounds.items ++ length (c.loop-number.numbers.items ++ k) ∷ [] = search rules in
    let m = key_more (λ i. key (rules_of c.args.table.now) (name_of c.args.self.now.text.now c.args.self.now.starts.now i)) c.loop-number.number _ _ c.loop-number.invariant in
    rw (e, f) m
