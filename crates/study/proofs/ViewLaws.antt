-- The view of a study is the whole of it. Assumes nothing.
use mathlib.Core.Path.{refl}
use Rattle.study.specs.View.{ViewIsWhole}

pub view_is_whole : ViewIsWhole
view_is_whole = (λ s. refl, λ s. refl)
