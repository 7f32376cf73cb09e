use Rattle.std.proofs.Common.{◌∷◌, ◌++◌, [], ◌-◌, map, length, ap, ap₂, refl, ◌∙◌, arith}
use Rattle.std.proofs.lemmas.List.{length-append}
use Rattle.std.specs.List.{range_with_len}
use Rattle.catalogue.specs.Lists.{name_of}
use Rattle.catalogue.proofs.Growing.{names_more, sound_more}
use Rattle.catalogue.proofs.Listing.{none_listed, not_whole, same_listed, same_sound, same_whole}
use Rattle.catalogue.proofs.buffer.CatalogueBuf.append.Goals as goal

pub invariant_of-self : goal.invariant_of-self
invariant_of-self c =
    let b = c.args.self.now in
    let e = c.reserve.ensures.items in
    record {
      sound = same_sound _ _ _ _ _ _ b.sound refl refl e;
      few = let f = b.few in let l = ap length e in omega arith;
      listed = same_listed _ _ _ _ _ _ _ refl refl e b.listed;
      none = b.none;
      whole = same_whole _ _ _ _ _ _ _ refl refl e _ b.whole;
    }

pub invariant_of-self-in-Break-branch-2 : goal.invariant_of-self-in-Break-branch-2
invariant_of-self-in-Break-branch-2 c =
    let b = c.args.self.now in
    let t = c.in_err-extend_from_slice.ensures.items in
    let e = c.reserve.ensures.items in
    record {
      sound = same_sound _ _ _ _ _ _ b.sound refl t e;
      few = let f = b.few in let l = ap length e in omega arith;
      listed = same_listed _ _ _ _ _ _ _ refl t e b.listed;
      none = b.none;
      whole = same_whole _ _ _ _ _ _ _ refl t e _ b.whole;
    }

pub invariant_of-self-2 : goal.invariant_of-self-2
invariant_of-self-2 c =
    let b = c.args.self.now in
    let behind = c.in_ok-push.ensures.items ∙ ap (λ xs. xs ++ c.args.end ∷ []) c.reserve.ensures.items in
    record {
      sound = same_sound _ _ _ _ _ _ (sound_more _ b.text.items b.starts.items c.args.name.now b.sound c.requires.name)
          refl c.in_ok-extend_from_slice.ensures.items (behind ∙ ap (λ e. b.starts.items ++ e ∷ []) c.requires.end);
      few = let l = ap length behind ∙ length-append b.starts.items (c.args.end ∷ []) in let f = c.requires.few in omega arith;
      listed = none_listed _ c.let_go.ensures.0;
      none = λ e. c.let_go.ensures.0;
      whole = not_whole _ _ c.let_go.ensures.1;
    }

pub returns : goal.returns
returns c =
    let b = c.args.self.now in
    let text = c.in_ok-extend_from_slice.ensures.items in
    let starts = c.in_ok-push.ensures.items ∙ (ap (λ xs. xs ++ c.args.end ∷ []) c.reserve.ensures.items ∙ ap (λ e. b.starts.items ++ e ∷ []) c.requires.end) in
    let names = ap₂ (λ t s. map (name_of t s) (range_with_len 0 (length s - 1))) text starts ∙ names_more _ b.text.items b.starts.items c.args.name.now b.sound in
    (refl, text, starts, names, c.let_go.ensures.1)
