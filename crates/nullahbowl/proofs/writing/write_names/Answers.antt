use Rattle.std.proofs.Common.{◌≡◌, [], ◌∷◌, ◌++◌, ap, sym}
use Rattle.catalogue.specs.Naming.{names_left}
use Rattle.nullahbowl.specs.Writing.{lines_of}
use Rattle.nullahbowl.proofs.Growing.{ended, written}
use Rattle.nullahbowl.proofs.writing.write_names.Goals as goal

pub loop-name-preserved : goal.loop-name-preserved
unfolding lines_of
loop-name-preserved g c =
    let left : lines_of (names_left c.loop-name.name-iterator) ≡ c.in-Some.name.now ++ 10 ∷ lines_of (names_left c.next.new.self) = ap lines_of c.in-Some.ensures.steps in
    let name = written _ _ _ c.in-Some.name.now (10 ∷ lines_of (names_left c.next.new.self)) _ (rw left at c.loop-name.invariant.2) c.in_ok-write_all.ensures.bytes in
    let line = written _ _ _ (10 ∷ []) (lines_of (names_left c.next.new.self)) _ name c.in_ok-write_all-2.ensures.bytes in
    (tt, tt, line)

pub returns : goal.returns
unfolding lines_of
returns g c =
    let none : lines_of (names_left c.loop-name.name-iterator) ≡ [] = ap lines_of c.in-None.ensures.steps.0 in
    let all = ended _ _ (lines_of (names_left c.into_iter-name-iterator.result)) (rw none at c.loop-name.invariant.2) in
    rw (sym c.into_iter-name-iterator.ensures.into_iter_gives) all
