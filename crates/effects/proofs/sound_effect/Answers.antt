-- `effects::sound_effect` meets its contract. Assumes nothing.
use mathlib.Core.Path.{refl, sym, ◌∙◌}
use Rattle.numeric.proofs.ChoiceLaws.{eq_case, ne_case}
use Rattle.faults.proofs.Laws.{taken, refused}
use Rattle.effects.proofs.StepLaws.{sound_read}
use Rattle.effects.proofs.sound_effect.Goals.{else-kind-record_kind-via-then-kind-record_kind+else-is_ok, else-kind-record_kind-via-else-kind-record_kind}
use Rattle.effects.proofs.sound_effect.Goals as goal

pub returns-then-is_ok : goal.returns-then-is_ok
returns-then-is_ok c =
    let t = c.half_at-target.ensures in
    let q = c.word_at-intensity.ensures in
    let d = c.half_at-duration.ensures in
    (sound_read _ _ _ _ _ t q d ∙ sym (eq_case _ _ _ _ (sym c.kind.ensures ∙ c.if-kind-record_kind.true) (eq_case _ _ _ _ (taken _ _ (sym c.is_ok.ensures.value ∙ c.if-is_ok.true) c.effect_fault.ensures) refl)), t, q, d)

pub returns-else-kind-record_kind : goal.returns-else-kind-record_kind
returns-else-kind-record_kind c =
    sound_read _ _ _ _ _ c.half_at-target.ensures c.word_at-intensity.ensures c.half_at-duration.ensures
    ∙ sym (elim c.else-kind-record_kind.branch [
      | else-kind-record_kind-via-then-kind-record_kind+else-is_ok w ↦ eq_case _ _ _ _ (sym c.kind.ensures ∙ w.if-kind-record_kind.true) (ne_case _ _ _ _ (refused _ _ (sym w.is_ok.ensures.value ∙ w.if-is_ok.false) w.effect_fault.ensures) refl)
      | else-kind-record_kind-via-else-kind-record_kind w ↦ ne_case _ _ _ _ (λ e. w.if-kind-record_kind.false (c.kind.ensures ∙ e)) refl
    ])
