-- What a catalogue finds is what is found in the lists that it was made of.
use Rattle.std.proofs.Common.{◌≡◌, ℕ, ◌≤◌, Bool, true, false, ◌&&◌, List, length, is_none, None, Some, Option, Ok, Err, slice_range, subst, refl, arith}
use Rattle.std.specs.Option.{option_or}
use Rattle.std.proofs.lemmas.Option.{none-some}
use Rattle.catalogue.specs.Checking.{ListsChecked, lists_of}
use Rattle.catalogue.specs.Entry.{FindsIn, FindsUnder, are_listed}
use Rattle.catalogue.specs.Finding.{FoundAt, may_ask}
use Rattle.catalogue.specs.Lists.{Lists, lists, names_fault, places_fault}
use Rattle.catalogue.specs.declared.fault.ListFault.{ListFault}
use Rattle.table.specs.Rules.{Rules}
use Rattle.catalogue.specs.declared.view.Catalogue.{Catalogue}
use Rattle.catalogue.proofs.Cutting.{part_at, through}
use Rattle.table.specs.Meaning.{rules_of}
use Rattle.table.specs.declared.view.Table.{Table}

-- what stands where the part is is the part
pub finds_in : (right : Bool) (l : Lists) (ask : List ℕ) (from to : ℕ) → FoundAt right l ask from to → FindsIn right l ask (slice_range l.places from to)
finds_in right l ask from to f =
    let p = part_at right l ask from to f in
    (p, through right l ask (slice_range l.places from to) p)

pub finds_under : (t : Table) (text starts places : List ℕ) (c : Catalogue) (ask : List ℕ) (from to : ℕ) →
    ListsChecked t text starts places (Ok c) → FoundAt (may_ask (lists_of c) ask) (lists_of c) ask from to →
    FindsUnder (lists (rules_of t) text starts places) ask (slice_range places from to)
finds_under t text starts places c ask from to e f = rw (e.4, e.5) (rw (e.0, e.1, e.2, e.3) at (finds_in (may_ask (lists_of c) ask) (lists_of c) ask from to f))

-- and it begins within the list
within : (right : Bool) (l : Lists) (ask : List ℕ) (from to : ℕ) → FoundAt right l ask from to → from ≤ length l.places
within true l ask from to f = let a = f.rises in let b = f.within in omega arith
within false l ask from to f = omega arith

pub start_within : (t : Table) (text starts places : List ℕ) (c : Catalogue) (ask : List ℕ) (from to : ℕ) →
    ListsChecked t text starts places (Ok c) → FoundAt (may_ask (lists_of c) ask) (lists_of c) ask from to → from ≤ length places
start_within t text starts places c ask from to e f = rw e.3 at (within (may_ask (lists_of c) ask) (lists_of c) ask from to f)

-- lists that are turned away under a table are none under its rules
pub not_listed : (t : Table) (r : Rules) (text starts places : List ℕ) (why : ListFault) → rules_of t ≡ r → ListsChecked t text starts places (Err why) → are_listed (lists r text starts places) ≡ false
not_listed t r text starts places why e h =
    not_both _ _ why (subst (λ q. option_or (names_fault q.utf8 text starts) (places_fault (lists q text starts places)) ≡ Some why) e h)
  where
    not_both : (a b : Option ListFault) (why : ListFault) → option_or a b ≡ Some why → (is_none a && is_none b) ≡ false
    not_both None None why e = absurd (none-some why e)
    not_both None (Some x) why e = refl
    not_both (Some x) b why e = refl
