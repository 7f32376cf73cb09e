use Rattle.std.proofs.Common.{◌≡◌, ◌+◌, ◌*◌, ℕ, Bool, cond, vec_items, sym, ap, ◌∙◌, arith}
use Rattle.table.specs.Buffer.{many_below}
use Rattle.pieces.specs.Runs.{weights_at, counts}
use Rattle.table.proofs.Setting.{many_most, many_next, none_below}
use Rattle.table.proofs.buffer.TableBuf.letter_count.Goals as goal
use Rattle.table.proofs.buffer.TableBuf.letter_count.Goals.{then-counts, else-counts}

pub loop-letter-init : goal.loop-letter-init
loop-letter-init c = sym (none_below (λ a. counts (weights_at (vec_items c.args.self.now.letters) (3 * a))))

pub overflow_add-many : goal.overflow_add-many
overflow_add-many c =
    let i = c.loop-letter.invariant in
    let m = many_most (λ a. counts (weights_at (vec_items c.args.self.now.letters) (3 * a))) c.loop-letter.letter in
    let t = c.loop-letter-test.true in
    omega arith

pub loop-letter-preserved : goal.loop-letter-preserved
loop-letter-preserved c =
    let ls = vec_items c.args.self.now.letters in
    let k = c.loop-letter.letter in
    let i = c.loop-letter.invariant in
    let v = c.counts.ensures ∙ ap counts (c.weights_at.ensures ∙ ap (λ l. weights_at l (3 * k)) c.as_slice.ensures.value) in
    next (λ a. counts (weights_at ls (3 * a))) k c.loop-letter.many c.if-counts.many i (elim c.if-counts.branch [
      | then-counts w ↦ w.many-is ∙ ap (λ b. c.loop-letter.many + cond b 1 0) (sym (sym v ∙ w.if-counts.true))
      | else-counts w ↦ w.many-is ∙ plus_none ∙ ap (λ b. c.loop-letter.many + cond b 1 0) (sym (sym v ∙ w.if-counts.false))
    ])
  where
    plus_none : {m : ℕ} → m ≡ m + 0
    plus_none = omega arith

    next : (f : ℕ → Bool) (k m n : ℕ) → m ≡ many_below f k → n ≡ m + cond (f k) 1 0 → n ≡ many_below f (k + 1)
    next f k m n i e = e ∙ (ap (λ x. x + cond (f k) 1 0) i ∙ sym (many_next f k))

pub overflow_add-result : goal.overflow_add-result
overflow_add-result c =
    let i = c.loop-letter.invariant in
    let m = many_most (λ a. counts (weights_at (vec_items c.args.self.now.letters) (3 * a))) c.loop-letter.letter in
    let t = c.loop-letter-test.false in
    let o = c.as_slice-2.type_inv in
    omega arith

pub overflow_add-result-2 : goal.overflow_add-result-2
overflow_add-result-2 c =
    let i = c.loop-letter.invariant in
    let m = many_most (λ a. counts (weights_at (vec_items c.args.self.now.letters) (3 * a))) c.loop-letter.letter in
    let t = c.loop-letter-test.false in
    let o = c.as_slice-2.type_inv in
    let x = c.as_slice-3.type_inv in
    omega arith
