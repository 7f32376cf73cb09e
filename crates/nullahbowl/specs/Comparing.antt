-- Whether one table may take the place of another, and how that is told.
use Rattle.std.specs.Prelude.{ℕ, List, [], ◌∷◌, ◌++◌, codes, Ok, Err, Result}
use Rattle.catalogue.specs.Filling.{held_rules}
use Rattle.nullahbowl.specs.Sessions.{session_letters}
use Rattle.nullahbowl.specs.declared.session.Session.{Session}
use Rattle.order.specs.Changes.{Decided}
use Rattle.order.specs.Pieces.{old_in}
use Rattle.order.specs.declared.newer.Change.{Change}
use Rattle.texts.specs.Written.{change_text}

-- the newer table keeps what the older one says of the letters that its lines name; or not, and what it changes is told
abbrev pub ChangesOf : (older newer : Session) → Result Unit Change → Type 0
ChangesOf s t r = Decided (old_in (session_letters s)) (held_rules s.book) (held_rules t.book) r

-- what is written of that, with the names of the two files
abbrev pub comparison_text : (older newer : List ℕ) → Result Unit Change → List ℕ
comparison_text a b (Ok x) = b ++ (codes " keeps the order of " ++ (a ++ 10 ∷ []))
comparison_text a b (Err c) = b ++ (codes " may change the order of " ++ (a ++ (codes ": " ++ (change_text c ++ 10 ∷ []))))
