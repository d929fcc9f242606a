-- `study::whole::enter` meets its contract, case by case. Assumes nothing.
use mathlib.Core.Path.{refl, sym, subst, ◌∙◌}
use lib.Dec.{T}
use Rattle.reading.proofs.EnterLaws.{pending_wide, step_by_parts}
use Rattle.study.proofs.whole.enter.Goals as goal

pub entered-requires : goal.entered-requires
entered-requires c = (c.requires.0 c.if-direct.true).between

pub returns-then-direct : goal.returns-then-direct
returns-then-direct c = record {
  p_len_unchanged = refl;
  whole_value = λ z. (refl, c.entered.ensures);
  bytes_value = λ z. absurd (subst T (sym c.if-direct.true ∙ z) tt);
}

pub returns : goal.returns
returns c =
    let e = c.enter_byte.ensures in
    record {
      p_len_unchanged = rw e.p_after (pending_wide _ _ _);
      whole_value = λ z. absurd (subst T (sym z ∙ c.if-direct.false) tt);
      bytes_value = λ z l k s m f. rw (e.value, e.p_after) (step_by_parts _ _ k s m f _);
    }
