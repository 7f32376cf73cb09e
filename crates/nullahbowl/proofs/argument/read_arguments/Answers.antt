use Rattle.std.proofs.Common.{◌≡◌, ℕ, List, [], ◌∷◌, length, map, sym, refl, ap, ◌∙◌, ⊎_elim, rules, arith}
use Rattle.std.proofs.lemmas.List.{map-append}
use Rattle.std.specs.String.{string_bytes}
use Rattle.nullahbowl.proofs.Words.{say_count, say_file, say_first, say_help, say_none, say_progress, say_table, say_version}
use Rattle.nullahbowl.proofs.argument.read_arguments.Goals.{else-options-via-then-options+else-is_some, else-options-via-else-options}
use Rattle.nullahbowl.proofs.argument.read_arguments.Goals as goal
use Rattle.nullahbowl.specs.Arguments.{argument_of, no_options}
use Rattle.nullahbowl.specs.declared.argument.Argument.{Argument}

-- the argument that a word is
is : (v w : List ℕ) (r x : Argument) → v ≡ w → r ≡ argument_of v → r ≡ x → argument_of w ≡ x
is v w r x e f g = ap argument_of (sym e) ∙ (sym f ∙ g)

pub loop-word-init : goal.loop-word-init
loop-word-init c = λ p gs h.
    let options : c.default-options.result ≡ no_options = search rules in
    rw (sym options, sym c.into_iter-words.ensures.rest) (rw c.new-files.ensures.items at h)

pub loop-word-preserved-in_ok-push-in-File : goal.loop-word-preserved-in_ok-push-in-File
loop-word-preserved-in_ok-push-in-File c = λ p gs h.
    let files = ap (map string_bytes) c.in_ok-push-in-File.ensures.items ∙ map-append string_bytes c.loop-word.files.items (c.in-Some.word ∷ []) in
    let next = ap (map string_bytes) c.in-Some.ensures.items in
    c.loop-word.invariant p gs (say_file _ _ _ _ _ p gs next _ files (is _ _ _ _ c.as_str.ensures.value c.of.ensures c.in-File.is) h)

pub loop-word-preserved-in-Count : goal.loop-word-preserved-in-Count
loop-word-preserved-in-Count c = λ p gs h.
    let next = ap (map string_bytes) c.in-Some.ensures.items in
    c.loop-word.invariant p gs (say_count c.loop-word.options _ _ _ _ p gs next (is _ _ _ _ c.as_str.ensures.value c.of.ensures c.in-Count.is) h)

pub loop-word-preserved-in-Table : goal.loop-word-preserved-in-Table
loop-word-preserved-in-Table c = λ p gs h.
    let next = ap (map string_bytes) c.in-Some.ensures.items in
    c.loop-word.invariant p gs (say_table c.loop-word.options _ _ _ _ p gs next (is _ _ _ _ c.as_str.ensures.value c.of.ensures c.in-Table.is) h)

pub loop-word-preserved-in-Progress : goal.loop-word-preserved-in-Progress
loop-word-preserved-in-Progress c = λ p gs h.
    let next = ap (map string_bytes) c.in-Some.ensures.items in
    c.loop-word.invariant p gs (say_progress c.loop-word.options _ _ _ _ p gs next (is _ _ _ _ c.as_str.ensures.value c.of.ensures c.in-Progress.is) h)

pub loop-word-preserved-in_ok-number_behind-in-First : goal.loop-word-preserved-in_ok-number_behind-in-First
loop-word-preserved-in_ok-number_behind-in-First c = λ p gs h.
    let next = ap (map string_bytes) c.in-Some.ensures.items in
    let number = c.in_ok-number_behind-in-First.ensures in
    let behind = ap (map string_bytes) (rw number.1 at c.next-in-First.ensures.items) in
    let one = is _ _ _ _ c.as_str.ensures.value c.of.ensures c.in-First.is in
    c.loop-word.invariant p gs (say_first c.loop-word.options _ _ _ _ p gs next (string_bytes number.0) _ c.in_ok-number_behind-in-First.field-0 one behind number.2 h)

pub loop-word-preserved : goal.loop-word-preserved
loop-word-preserved c = λ p gs h.
    let next = ap (map string_bytes) c.in-Some.ensures.items in
    c.loop-word.invariant p gs
    (⊎_elim
    (λ e. say_help _ _ _ _ _ p gs next (is _ _ _ _ c.as_str.ensures.value c.of.ensures e) h)
    (λ e. say_version _ _ _ _ _ p gs next (is _ _ _ _ c.as_str.ensures.value c.of.ensures e) h) c.in-Help.is)

empty : {X : Type 0} (xs : List X) → length xs ≡ 0 → xs ≡ []
empty [] e = refl
empty (x ∷ xs) e = absurd (omega (arith, e))

pub returns : goal.returns
returns c =
    let none = empty c.loop-word.words.rest.items (sym c.loop-word.words.rest.ok.0 ∙ c.in_default.ensures.cases.0) in (
      c.loop-word.invariant _ _ (say_none _ _ _ (ap (map string_bytes) none)),
      elim c.else-options.branch [
        | else-options-via-then-options+else-is_some w ↦ λ first count. let not_first = w.if-is_some.ensures in cc
        | else-options-via-else-options w ↦ λ first count. let no_count = w.if-options.false in cc
      ],
    )
