-- Lines of letters, and the first byte of a line at which no letter can be read.
use Rattle.std.proofs.Common.{◌≡◌, ◌≢◌, ℕ, zero, suc, ◌<◌, ◌≤◌, true, List, [], ◌∷◌, ◌++◌, length, take, drop, Some, None, Option, refl, sym, ap, ◌∙◌, arith}
use Rattle.std.proofs.lemmas.Bool.{and_parts}
use Rattle.std.proofs.lemmas.List.{append_assoc, length-append, length-drop, length-take-le, take-append-drop, take_all}
use Rattle.texts.specs.Forms.{AreLetters, IsDamage}
use Rattle.texts.specs.Laws.{JustItsDamage}
use Rattle.texts.specs.Lines.{Saying, command_of, damaged, meaning_of, said, unless_damaged, whole_meaning}
use Rattle.texts.proofs.Saying.{damaged_line}
use Rattle.utf8.specs.Laws.{all_letters}
use Rattle.utf8.specs.Letters.{bytes_of, is_letter, written}
use Rattle.utf8.specs.Reading.{later, letters, unread}
use Rattle.utf8.proofs.Lawful.{first_unread, gives_back, reads_all}
use Rattle.utf8.proofs.Letters.{unread_written}

pub letters_are : (n : List ℕ) → unread n ≡ None → AreLetters n
letters_are n e = let g = gives_back n e in (letters n, g.0, g.1)

pub are_read : (n : List ℕ) → AreLetters n → unread n ≡ None
are_read n h = (reads_all h.0 n h.1 h.2).0

damage_at : (l : List ℕ) (k : ℕ) → unread l ≡ Some k → IsDamage l k
damage_at l k e = let f = first_unread l k e in (f.0, letters_are (take k l) f.1, f.2)

-- where no letter begins, no letter can be read at the first byte
module _ (m : List ℕ) (none : (a : ℕ) (rest : List ℕ) → is_letter a ≡ true → m ≢ bytes_of a ++ rest) where
  begin : (ls rest : List ℕ) → all_letters ls ≡ true → 0 < length (written ls) → m ≡ written ls ++ rest → ⊥
  unfolding written
  begin [] rest e l q = omega arith
  begin (a ∷ ls) rest e l q = none a (written ls ++ rest) (and_parts (is_letter a) (all_letters ls) e).0 (q ∙ append_assoc (bytes_of a) (written ls) rest)

  -- what is read in front of a place behind the first byte
  never : (k : ℕ) → 0 < k → k ≤ length m → unread (take k m) ≡ None → ⊥
  never k some l e =
      let h = letters_are (take k m) e in
      let n : length (written h.0) ≡ k = ap length h.2 ∙ length-take-le k m l in
      begin h.0 (drop k m) h.1 (omega arith) (sym (take-append-drop k m) ∙ ap (λ x. x ++ drop k m) (sym h.2))

  stuck : 0 < length m → unread m ≡ Some 0
  stuck some = go (unread m) refl
    where
      go : (o : Option ℕ) → unread m ≡ o → o ≡ Some 0
      go None e = absurd (never (length m) some (omega arith) (ap unread (take_all (length m) m (omega arith)) ∙ e))
      go (Some zero) e = refl
      go (Some (suc j)) e = let f = first_unread m (suc j) e in absurd (never (suc j) (omega arith) (omega arith) f.1)

-- letters are read up to there
behind_letters : (ls m : List ℕ) → all_letters ls ≡ true → unread m ≡ Some 0 → unread (written ls ++ m) ≡ Some (length (written ls))
unfolding written
behind_letters [] m e h = h
behind_letters (a ∷ ls) m e h =
    let p = and_parts (is_letter a) (all_letters ls) e in
    let l = length-append (bytes_of a) (written ls) in
    ap unread (append_assoc (bytes_of a) (written ls) m)
    ∙ (unread_written a (written ls ++ m) p.0 ∙ (ap (later (length (bytes_of a))) (behind_letters ls m p.1 h) ∙ ap (λ k. Some k) (sym l)))

damage_read : (l : List ℕ) (k : ℕ) → IsDamage l k → unread l ≡ Some k
damage_read l k h =
    let ls = h.1.0 in
    let n : length (written ls) ≡ k = ap length h.1.2 ∙ length-take-le k l (omega arith) in
    let d = length-drop k l in
    sym (ap unread (ap (λ x. x ++ drop k l) h.1.2 ∙ take-append-drop k l))
    ∙ (behind_letters ls (drop k l) h.1.1 (stuck (drop k l) h.2 (omega arith)) ∙ ap (λ k. Some k) n)

-- no other line means so
said_damaged : (c : Option Saying) (k : ℕ) → said c ≡ damaged k → ⊥
said_damaged None k q = cc
said_damaged (Some s) k q = cc

whole_damaged : (l : List ℕ) (k : ℕ) → whole_meaning l ≡ damaged k → ⊥
whole_damaged [] k q = cc
whole_damaged (x ∷ r) k q = said_damaged (command_of (x ∷ r)) k q

meant_damaged : (o : Option ℕ) (l : List ℕ) (k : ℕ) → unless_damaged o (whole_meaning l) ≡ damaged k → o ≡ Some k
meant_damaged None l k q = absurd (whole_damaged l k q)
meant_damaged (Some j) l k q = let i : j ≡ k = cc in ap (λ x. Some x) i

pub just_its_damage : JustItsDamage
unfolding meaning_of
just_its_damage l k = (λ e. damage_at l k (meant_damaged (unread l) l k e), λ h. damaged_line l k (damage_read l k h))
