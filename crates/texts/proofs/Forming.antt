-- What is read of a line, by the form that it has.
use Rattle.std.proofs.Common.{◌≡◌, ℕ, ◌<◌, ◌⊎◌, inl, inr, Bool, true, false, cond, List, [], ◌∷◌, ◌++◌, length, codes, Some, None, Option, sym, refl, ap, ◌∙◌, ap₂, subst, rules, arith}
use Rattle.std.proofs.lemmas.List.{length-append}
use Rattle.std.proofs.lemmas.Slice.Eq.{bytes_eq-Decides}
use Rattle.std.specs.Option.{option_map}
use Rattle.std.specs.Str.{bytes_eq}
use Rattle.texts.specs.declared.line.Entry.{Entry}
use Rattle.texts.specs.declared.line.Entry.TheVariants.{Letter, Long, Pair}
use Rattle.texts.specs.declared.line.Word.{Word}
use Rattle.texts.specs.declared.line.Word.TheVariants as word
use Rattle.texts.specs.Forms.{HasForm, HasText, IsReserved, IsRun}
use Rattle.texts.specs.Laws.{HasNone, JustItsForm, NoOther}
use Rattle.texts.specs.Lines.{Meaning, Saying, blank, by_word, command_of, damaged, enters, finds, letter_entry, meaning_of, names, pair_entry, run_entry, run_saying, said, says, text_of, unreadable, wants_key, word_of}
use Rattle.texts.specs.Parts.{behind, front, words}
use Rattle.texts.proofs.Cutting.{IsCut, IsFree, behind_free, behind_of, cut, front_free, front_of}
use Rattle.texts.proofs.Damage.{are_read, letters_are}
use Rattle.texts.proofs.Entering.{IsRunEntry, none_some, pair_entry_form, pair_entry_read, run_read, run_words_form}
use Rattle.texts.proofs.Saying.{blank_line, damaged_line, some_line}
use Rattle.texts.proofs.Weighing.{letter_entry_form, letter_entry_read}
use Rattle.utf8.specs.Reading.{unread}

-- a line with the word run in front, and what stands behind that
run_behind : (e : Entry) (l : List ℕ) → IsRun e l → (t : List ℕ) × IsRunEntry e t × (l ≡ codes "run " ++ t)
run_behind (Letter e) l h = absurd h
run_behind (Pair p) l h = h
run_behind (Long e) l h = h

run_whole : (e : Entry) (t l : List ℕ) → IsRunEntry e t → l ≡ codes "run " ++ t → IsRun e l
run_whole (Letter e) t l h q = absurd h
run_whole (Pair p) t l h q = (t, h, q)
run_whole (Long e) t l h q = (t, h, q)

run_form : (e : Entry) (l : List ℕ) → IsRun e l → HasForm (enters e) l
run_form (Letter e) l h = absurd h
run_form (Pair p) l h = inr h
run_form (Long e) l h = h

-- the word that is read, as it is written
abbrev IsWord : Option Word → List ℕ → Type 0
IsWord (Some word.Letter) p = p ≡ codes "letter"
IsWord (Some word.Pair) p = p ≡ codes "pair"
IsWord (Some word.Run) p = p ≡ codes "run"
IsWord (Some word.Find) p = p ≡ codes "find"
IsWord (Some word.Key) p = p ≡ codes "key"
IsWord (Some word.Name) p = p ≡ codes "name"
IsWord None p = Unit {0}

word_is : (p : List ℕ) → IsWord (word_of p) p
word_is p = go _ _ _ _ _ _ (is (codes "letter")) (is (codes "pair")) (is (codes "run")) (is (codes "find")) (is (codes "key")) (is (codes "name"))
  where
    is : (w : List ℕ) → bytes_eq p w ≡ true → p ≡ w
    is w = (bytes_eq-Decides p w).0

    go : (a b r c d e : Bool) → (a ≡ true → p ≡ codes "letter") → (b ≡ true → p ≡ codes "pair") → (r ≡ true → p ≡ codes "run") → (c ≡ true → p ≡ codes "find") →
        (d ≡ true → p ≡ codes "key") → (e ≡ true → p ≡ codes "name") →
        IsWord (cond a (Some word.Letter) (cond b (Some word.Pair) (cond r (Some word.Run) (cond c (Some word.Find) (cond d (Some word.Key) (cond e (Some word.Name) None)))))) p
    go true b r c d e f g k h i j = f refl
    go false true r c d e f g k h i j = g refl
    go false false true c d e f g k h i j = k refl
    go false false false true d e f g k h i j = h refl
    go false false false false true e f g k h i j = i refl
    go false false false false false true f g k h i j = j refl
    go false false false false false false f g k h i j = tt

-- a word that may begin a name: none, or run
abbrev IsOpen : Option Word → Type 0
IsOpen k = (k ≡ None) ⊎ (k ≡ Some word.Run)

-- the five words: any other word that is read is one of them, and each of them is read so and holds no space
word_reserved : (k : Option Word) (p : List ℕ) → IsWord k p → (IsReserved p → ⊥) → IsOpen k
word_reserved (Some word.Letter) p e n = absurd (n (inl e))
word_reserved (Some word.Pair) p e n = absurd (n (inr (inl e)))
word_reserved (Some word.Run) p e n = inr refl
word_reserved (Some word.Find) p e n = absurd (n (inr (inr (inl e))))
word_reserved (Some word.Key) p e n = absurd (n (inr (inr (inr (inl e)))))
word_reserved (Some word.Name) p e n = absurd (n (inr (inr (inr (inr e)))))
word_reserved None p e n = inl refl

reserved_is : (p : List ℕ) → IsReserved p → IsFree 32 p × (IsOpen (word_of p) → ⊥)
reserved_is p (inl h) = rw h (search (rules, arith), λ o. elim o [ inl e ↦ cc | inr e ↦ cc ])
reserved_is p (inr (inl h)) = rw h (search (rules, arith), λ o. elim o [ inl e ↦ cc | inr e ↦ cc ])
reserved_is p (inr (inr (inl h))) = rw h (search (rules, arith), λ o. elim o [ inl e ↦ cc | inr e ↦ cc ])
reserved_is p (inr (inr (inr (inl h)))) = rw h (search (rules, arith), λ o. elim o [ inl e ↦ cc | inr e ↦ cc ])
reserved_is p (inr (inr (inr (inr h)))) = rw h (search (rules, arith), λ o. elim o [ inl e ↦ cc | inr e ↦ cc ])

-- a line is cut at its first space
cut_text : (p text l : List ℕ) → IsFree 32 p → HasText p text l → (front 32 l ≡ p) × (text_of (behind 32 l) ≡ text)
cut_text p text l f (inl h) = (ap (front 32) h.0 ∙ front_free 32 p f, ap (λ q. text_of (behind 32 q)) h.0 ∙ (ap text_of (behind_free 32 p f) ∙ sym h.1))
cut_text p text l f (inr h) = (ap (front 32) h ∙ front_of 32 p text f, ap (λ q. text_of (behind 32 q)) h ∙ ap text_of (behind_of 32 p text f))

cut_line : (l : List ℕ) → HasText (front 32 l) (text_of (behind 32 l)) l
cut_line l = go (cut 32 l)
  where
    go : IsCut 32 l → HasText (front 32 l) (text_of (behind 32 l)) l
    go (inl f) = inl (sym (front_free 32 l f), ap text_of (behind_free 32 l f))
    go (inr g) = let h = cut_text g.0 g.1 l g.2 (inr g.3) in inr (rw (h.0, h.1) g.3)

-- what is read in front of it is no word, or run, just where the line is none of the five, alone or with a text behind
none_reserved : (l : List ℕ) → IsOpen (word_of (front 32 l)) → (w t : List ℕ) → IsReserved w → HasText w t l → ⊥
none_reserved l e w t r h = let k = reserved_is w r in k.1 (subst (λ (p : List ℕ). IsOpen (word_of p)) (cut_text w t l k.0 h).0 e)

reserved_none : (l : List ℕ) → ((w t : List ℕ) → IsReserved w → HasText w t l → ⊥) → IsOpen (word_of (front 32 l))
reserved_none l n = word_reserved _ _ (word_is (front 32 l)) (λ r. n (front 32 l) (text_of (behind 32 l)) r (cut_line l))

-- a run is a line with its word in front
run_cut : (e : Entry) (l : List ℕ) → IsRun e l → (word_of (front 32 l) ≡ Some word.Run) × (run_entry (words (text_of (behind 32 l))) ≡ Some e)
run_cut e l h =
    let k = run_behind e l h in
    let c = cut_text (codes "run") k.0 l (search (rules, arith)) (inr k.2) in
    (ap word_of c.0, ap (λ t. run_entry (words t)) c.1 ∙ run_read e k.0 k.1)

-- a text that is not empty stands behind its word and a space
has_more : (w n l x y : List ℕ) → HasText w n l → n ≡ x ++ 32 ∷ y → l ≡ w ++ 32 ∷ (x ++ 32 ∷ y)
has_more w n l x y (inl h) e = absurd (filled x (sym e ∙ h.1))
  where
    filled : (x : List ℕ) → x ++ 32 ∷ y ≡ [] → ⊥
    filled [] e = cc
    filled (z ∷ x) e = cc
has_more w n l x y (inr h) e = h ∙ ap (λ t. w ++ 32 ∷ t) e

-- only an entry is entered
entered : (o : Option Entry) (s : Saying) → option_map enters o ≡ Some s → (e : Entry) × (o ≡ Some e) × (s ≡ enters e)
entered None s k = none_some s k
entered (Some e) s k = (e, refl, cc)

-- a line with the word run is a run, or a name
run_line : (p text l : List ℕ) (e : Entry) → p ≡ codes "run" → HasText p text l → run_entry (words text) ≡ Some e → IsRun e l
run_line p text l e w (inl h) k = none_some e (ap (λ t. run_entry (words t)) (sym h.1) ∙ k)
run_line p text l e w (inr h) k = run_whole e text l (run_words_form (words text) text e refl k) (h ∙ ap (λ q. q ++ 32 ∷ text) w)

run_said : (p text l : List ℕ) → p ≡ codes "run" → HasText p text l → 0 < length l → word_of (front 32 l) ≡ Some word.Run → HasForm (run_saying (run_entry (words text)) l) l
run_said p text l w t some same = go (run_entry (words text)) refl
  where
    go : (o : Option Entry) → run_entry (words text) ≡ o → HasForm (run_saying o l) l
    go None q = inr (
      refl,
      some,
      none_reserved l (inr same),
      λ e r.
          let c = cut_text p text l (rw w (search (rules, arith))) t in
          none_some e (sym q ∙ (ap (λ x. run_entry (words x)) (sym c.1) ∙ (run_cut e l r).1)),
    )
    go (Some e) q = run_form e l (run_line p text l e w t q)

-- a line that says something by its first word has the form of it
said_form : (k : Option Word) (p text l : List ℕ) → IsWord k p → HasText p text l → 0 < length l → word_of (front 32 l) ≡ k → (s : Saying) → by_word k text l ≡ Some s → HasForm s l
said_form (Some word.Letter) p text l w t some same s e =
    let h = entered (letter_entry (words text)) s e in
    let k = letter_entry_form text h.0 h.1 in
    subst (λ (r : Saying). HasForm r l) (sym (h.2 ∙ ap enters k.4)) (k.2, k.3, k.5, k.6, has_more p text l k.2 k.3 t k.7 ∙ ap (λ q. q ++ 32 ∷ (k.2 ++ 32 ∷ k.3)) w)
said_form (Some word.Pair) p text l w t some same s e =
    let h = entered (pair_entry (words text)) s e in
    let k = pair_entry_form text h.0 h.1 in
    subst (λ (r : Saying). HasForm r l) (sym (h.2 ∙ ap enters k.6)) (inl (k.3, k.4, k.5, k.7, k.8, k.9, has_more p text l k.3 (k.4 ++ 32 ∷ k.5) t k.10 ∙ ap (λ q. q ++ 32 ∷ (k.3 ++ 32 ∷ (k.4 ++ 32 ∷ k.5))) w))
said_form (Some word.Run) p text l w t some same s e = let h : run_saying (run_entry (words text)) l ≡ s = cc in subst (λ (r : Saying). HasForm r l) h (run_said p text l w t some same)
said_form (Some word.Find) p text l w t some same s e = let h : finds text ≡ s = cc in subst (λ (r : Saying). HasForm r l) h (subst (λ (q : List ℕ). HasText q text l) w t)
said_form (Some word.Key) p text l w t some same s e = let h : wants_key text ≡ s = cc in subst (λ (r : Saying). HasForm r l) h (subst (λ (q : List ℕ). HasText q text l) w t)
said_form (Some word.Name) p text l w t some same s e = let h : names text ≡ s = cc in subst (λ (r : Saying). HasForm r l) h (inl (subst (λ (q : List ℕ). HasText q text l) w t))
said_form None p text l w t some same s e = let h : names l ≡ s = cc in subst (λ (r : Saying). HasForm r l) h (inr (refl, some, none_reserved l (inl same), λ i r. let k : None ≡ Some word.Run = sym same ∙ (run_cut i l r).0 in absurd cc))

command_form : (l : List ℕ) → 0 < length l → (s : Saying) → command_of l ≡ Some s → HasForm s l
command_form l some s e = said_form (word_of (front 32 l)) (front 32 l) (text_of (behind 32 l)) l (word_is (front 32 l)) (cut_line l) some refl s e

-- a line that has a form says what it has the form of
text_some : (p n l : List ℕ) → 0 < length p → HasText p n l → 0 < length l
text_some p n l some (inl h) = rw h.0 some
text_some p n l some (inr h) = rw (h, length-append) (omega arith)

read_with : (k : Option Word) (p text l : List ℕ) → unread l ≡ None → word_of p ≡ k → 0 < length p → IsFree 32 p → HasText p text l → (s : Saying) → by_word k text l ≡ Some s → meaning_of l ≡ says s
read_with k p text l u w some f t s e =
    let h = cut_text p text l f t in
    some_line l u (text_some p text l some t) ∙ ap said (ap₂ (λ q n. by_word q n l) (ap word_of h.0 ∙ w) h.1 ∙ e)

run_meant : (e : Entry) (l : List ℕ) → unread l ≡ None → IsRun e l → meaning_of l ≡ says (enters e)
run_meant e l u h =
    let k = run_behind e l h in
    read_with (Some word.Run) (codes "run") k.0 l u refl (omega arith) (search (rules, arith)) (inr k.2) (enters e) (ap (λ o. Some (run_saying o l)) (run_read e k.0 k.1))

-- a name alone
name_read : (n : List ℕ) → IsOpen (word_of (front 32 n)) → ((e : Entry) → IsRun e n → ⊥) → command_of n ≡ Some (names n)
name_read n (inl e) f = ap (λ k. by_word k (text_of (behind 32 n)) n) e
name_read n (inr e) f = ap (λ k. by_word k (text_of (behind 32 n)) n) e ∙ go (run_entry (words (text_of (behind 32 n)))) refl
  where
    go : (o : Option Entry) → run_entry (words (text_of (behind 32 n))) ≡ o → Some (run_saying (run_entry (words (text_of (behind 32 n)))) n) ≡ Some (names n)
    go None q = ap (λ o. Some (run_saying o n)) q
    go (Some i) q = absurd (f i (run_line (front 32 n) (text_of (behind 32 n)) n i (subst (λ (k : Option Word). IsWord k (front 32 n)) e (word_is (front 32 n))) (cut_line n) q))

pub form_read : (s : Saying) (l : List ℕ) → unread l ≡ None → HasForm s l → meaning_of l ≡ says s
form_read (enters (Letter e)) l u h =
    read_with (Some word.Letter) (codes "letter") (h.0 ++ 32 ∷ h.1) l u refl (omega arith) (search (rules, arith)) (inr h.4) (enters (Letter e))
    (ap (option_map enters) (letter_entry_read e.letter e.weights h.0 h.1 h.2 h.3))
form_read (enters (Pair p)) l u (inl h) =
    read_with (Some word.Pair) (codes "pair") (h.0 ++ 32 ∷ (h.1 ++ 32 ∷ h.2)) l u refl (omega arith) (search (rules, arith)) (inr h.6) (enters (Pair p))
    (ap (option_map enters) (pair_entry_read p.first p.second p.weights h.0 h.1 h.2 h.3 h.4 h.5))
form_read (enters (Pair p)) l u (inr h) = run_meant (Pair p) l u h
form_read (enters (Long e)) l u h = run_meant (Long e) l u h
form_read (finds n) l u h = read_with (Some word.Find) (codes "find") n l u refl (omega arith) (search (rules, arith)) h (finds n) refl
form_read (wants_key n) l u h = read_with (Some word.Key) (codes "key") n l u refl (omega arith) (search (rules, arith)) h (wants_key n) refl
form_read (names n) l u (inl h) = read_with (Some word.Name) (codes "name") n l u refl (omega arith) (search (rules, arith)) h (names n) refl
form_read (names n) l u (inr h) =
    let e = h.0 in ap meaning_of e ∙ (some_line n (ap unread (sym e) ∙ u) h.1 ∙ ap said (name_read n (reserved_none n h.2) h.3))

-- a line that says something, or can't be read, is letters, and is not empty
spoken : (l : List ℕ) (m : Meaning) → meaning_of l ≡ m → (m ≡ blank → ⊥) → ((k : ℕ) → m ≡ damaged k → ⊥) → (unread l ≡ None) × (0 < length l)
spoken l m e n d = go (unread l) refl l refl
  where
    go : (o : Option ℕ) → unread l ≡ o → (k : List ℕ) → l ≡ k → (unread l ≡ None) × (0 < length l)
    go (Some k) u r q = absurd (d k (sym e ∙ damaged_line l k u))
    go None u [] q = absurd (n (sym e ∙ blank_line l u (ap length q)))
    go None u (x ∷ r) q = let h = ap length q in (u, omega arith)

-- a line says just what its command is
said_says : (o : Option Saying) (s : Saying) → said o ≡ says s → o ≡ Some s
said_says None s e = absurd cc
said_says (Some r) s e = let h : r ≡ s = cc in ap Some h

-- the laws of forms
pub just_its_form : JustItsForm
just_its_form s l = (
  λ e.
      let h = spoken l (says s) e (λ k. absurd cc) (λ k q. absurd cc) in
      (letters_are l h.0, command_form l h.1 s (said_says (command_of l) s (sym (some_line l h.0 h.1) ∙ e))),
  λ h. form_read s l (are_read l h.0) h.1,
)

pub no_other : NoOther
no_other l = (
  λ e.
      let h = spoken l unreadable e (λ k. absurd cc) (λ k q. absurd cc) in
      (letters_are l h.0, h.1, λ s f. absurd (let k = form_read s l h.0 f in cc)),
  λ h. some_line l (are_read l h.0) h.1 ∙ go (command_of l) refl h,
)
  where
    go : (o : Option Saying) → command_of l ≡ o → HasNone l → said o ≡ unreadable
    go None e h = refl
    go (Some s) e h = absurd (h.2 s (command_form l h.1 s e))
