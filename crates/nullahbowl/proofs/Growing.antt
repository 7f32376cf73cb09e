-- What is written so far, and what is still to come.
use Rattle.std.proofs.Common.{◌≡◌, ℕ, None, Some, Option, List, [], ◌++◌, sym, refl, ap, ◌∙◌}
use Rattle.std.proofs.lemmas.List.{append-nil, append_assoc}
use Rattle.std.specs.Io.KnownBytes.{Appends}

-- known bytes have become others, and with the rest behind these they are grown by all
abbrev pub Grows : (from to : Option (List ℕ)) → (rest all : List ℕ) → Type 0
Grows None to rest all = Unit {0}
Grows (Some xs) None rest all = ⊥
Grows (Some xs) (Some ys) rest all = ys ++ rest ≡ xs ++ all

pub begun : (a : Option (List ℕ)) (all : List ℕ) → Grows a a all all
begun None all = tt
begun (Some xs) all = refl

-- some of the rest is written
pub written : (a b c : Option (List ℕ)) (bs rest all : List ℕ) → Grows a b (bs ++ rest) all → Appends b c bs → Grows a c rest all
written None b c bs rest all g w = tt
written (Some xs) None c bs rest all g w = absurd g
written (Some xs) (Some ys) None bs rest all g w = absurd w
written (Some xs) (Some ys) (Some zs) bs rest all g w = ap (λ l. l ++ rest) w ∙ (append_assoc ys bs rest ∙ g)

pub ended : (a b : Option (List ℕ)) (all : List ℕ) → Grows a b [] all → Appends a b all
ended None b all g = tt
ended (Some xs) None all g = absurd g
ended (Some xs) (Some ys) all g = sym (append-nil ys) ∙ g
