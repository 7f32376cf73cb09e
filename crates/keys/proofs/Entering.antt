-- Names that are taken, and keys that do not fit.
use Rattle.std.proofs.Common.{◌≡◌, ℕ, ◌+◌, ◌-◌, ◌*◌, ◌/◌, ◌^◌, min, ◌≤◌, Bool, true, false, cond, ltb, List, length, None, Some, Option, Ok, Err, refl, sym, ap, ◌∙◌, arith}
use Rattle.std.proofs.lemmas.Bool.{le-ltb}
use Rattle.std.proofs.lemmas.Bool.Decides.{nat_tests}
use Rattle.std.proofs.lemmas.Option.{none-some, same_Some}
use Rattle.table.specs.declared.fault.Refusal.{Refusal}
use Rattle.table.specs.declared.fault.Refusal.TheVariants.{Foreign, Letters, Shape, TooMany, Twice}
use Rattle.table.specs.Refusals.{refusal_number, refusal_of}
use Rattle.table.proofs.Refusing.{by_refusal}
use Rattle.table.specs.Rules.{rules_in}
use Rattle.keys.specs.declared.entry.Done.TheVariants.{Short}
use Rattle.keys.specs.declared.sort_key.Short as room_needs
use Rattle.keys.specs.Entry.{done_of, fits_in}
use Rattle.keys.specs.Making.{saturated, fits}
use Rattle.std.specs.Option.{option_map, option_or}
use Rattle.keys.specs.declared.fault.NameRefusal.TheVariants.{NotUtf8, TooLong}
use Rattle.keys.specs.declared.fault.NameRefusal.{NameRefusal}
use Rattle.keys.specs.Letters.{letters_in, unread_in}
use Rattle.keys.specs.Refusals.{length_refusal, name_refusal, name_refusal_number}
use Rattle.keys.specs.Rows.{key}
use Rattle.table.specs.Meaning.{rules_of}
use Rattle.table.specs.declared.view.Table.{Table}
use Rattle.keys.specs.Laws.{most_triples}
use Rattle.keys.proofs.Bounding.{key_by_letters, key_few, none_narrow}
use Rattle.keys.proofs.Widening.{tables_narrow, tables_narrow_three}

pub enough : (k room : ℕ) → k ≤ room → Ok tt ≡ fits k room
enough k room h = rw (le-ltb room k h)

pub name_kept : (u : Bool) (x : List ℕ) → name_refusal u x ≡ None → length (letters_in u x) ≤ 1000
name_kept u x e = go (unread_in u x) e
  where
    go : (r : Option ℕ) → option_or (option_map NotUtf8 r) (length_refusal (length (letters_in u x))) ≡ None → length (letters_in u x) ≤ 1000
    go None e = grind (arith, nat_tests)
    go (Some k) e = grind arith

needs_all : (k room : ℕ) (short : room_needs.Short) → k ≤ 3002 → fits k room ≡ Err short → Short short.needs ≡ fits_in room k
needs_all k room short h e = let c : saturated k ≡ k = omega arith in grind (arith, nat_tests)

pub too_short : (ls js : List ℕ) (n : ℕ) (x : List ℕ) (room : ℕ) (short : room_needs.Short) → refusal_of ls js n ≡ None → name_refusal false x ≡ None
    → fits (length (key (rules_in ls js n) x)) room ≡ Err short → Short short.needs ≡ done_of ls js n x room
too_short ls js n x room short a b e =
    let l = name_kept false x b in
    let f = key_by_letters 1 (rules_in ls js n) (none_narrow (rules_in ls js n) (λ p. refl)) x in
    needs_all (length (key (rules_in ls js n) x)) room short (omega arith) e ∙ rw (a, b)

-- a table of bytes is turned away with 1
pub byte_number : (ls js : List ℕ) (n : ℕ) (why : Refusal) → refusal_of ls js n ≡ Some why → refusal_number why ≡ 1
byte_number ls js n why =
    by_refusal ls js n (λ o. o ≡ Some why → refusal_number why ≡ 1) (λ e. one Letters e refl) (λ e. one Shape e refl) (λ e. one TooMany e refl)
    (λ k q e. one (Foreign k) e refl) (λ k q r e. one (Twice k) e refl) (λ s e. absurd (none-some why e))
  where
    one : (a : Refusal) → ◌≡◌ {A = Option Refusal} (Some a) (Some why) → refusal_number a ≡ 1 → refusal_number why ≡ 1
    one a e r = ap refusal_number (sym (same_Some a why e)) ∙ r

-- the key of a name that is taken has at most 9,002 numbers
pub key_most : (t : Table) (n : List ℕ) → name_refusal (rules_of t).utf8 n ≡ None → length (key (rules_of t) n) ≤ 9002
key_most t n e = let l = name_kept (rules_of t).utf8 n e in let f = key_by_letters 3 (rules_of t) (tables_narrow_three t) n in omega arith

-- and with so many numbers for each letter, two more than all of them
pub key_fits : (t : Table) (n : List ℕ) → length (key (rules_of t) n) ≤ 3 * most_triples t * length n + 2
key_fits t n = key_few (most_triples t) (rules_of t) (tables_narrow t) n

-- room for so many numbers of each letter
pub room_each : (b : Bool) (each len room : ℕ) → each ≡ 3 * cond b 3 1 → 2 ≤ room → len ≤ (room - 2) / each → 3 * cond b 3 1 * len + 2 ≤ room
room_each true each len room e h l = let m : len ≤ (room - 2) / 9 = rw e at l in omega arith
room_each false each len room e h l = let m : len ≤ (room - 2) / 3 = rw e at l in omega arith

pub all_each : (b : Bool) (each len all most key : ℕ) → each ≡ 3 * cond b 3 1 → all ≡ min (len * each) (2 ^ 64 - 1) → most ≡ min (all + 2) (2 ^ 64 - 1) → key ≤ 9002 → key ≤ 3 * cond b 3 1 * len + 2 → key ≤ most
all_each true each len all most key e a m h l = let n : all ≡ min (len * 9) (2 ^ 64 - 1) = rw e at a in omega arith
all_each false each len all most key e a m h l = let n : all ≡ min (len * 3) (2 ^ 64 - 1) = rw e at a in omega arith

-- and a name under it with 2
pub byte_name : (x : List ℕ) (why : NameRefusal) → name_refusal false x ≡ Some why → name_refusal_number why ≡ 2
unfolding unread_in
byte_name x why e = go (ltb 1000 (length (letters_in false x))) e
  where
    go : (b : Bool) → cond b (Some (TooLong (length (letters_in false x)))) None ≡ Some why → name_refusal_number why ≡ 2
    go true e = ap name_refusal_number (sym (same_Some _ why e))
    go false e = absurd (none-some why e)
