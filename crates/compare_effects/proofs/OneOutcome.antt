-- Each exported function's promise admits one outcome. Assumes nothing.
use Rattle.std.proofs.Common.{sym, ◌∙◌}
use Rattle.float.proofs.Outcome.{Single}
use Rattle.compare_effects.proofs.sedhavil_sqrt_f32 as sqrt-f32
use Rattle.compare_effects.proofs.sedhavil_sqrt_f64 as sqrt-f64
use Rattle.compare_effects.proofs.sedhavil_as_f32 as as_f32
use Rattle.compare_effects.proofs.sedhavil_abs_f32 as abs-f32
use Rattle.compare_effects.proofs.sedhavil_clamp_unit_f32 as clamp-unit-f32
use Rattle.compare_effects.proofs.sedhavil_clamp_unit_f64 as clamp-unit-f64
use Rattle.compare_effects.proofs.sedhavil_clamp_signed_unit_f32 as clamp-signed-unit-f32
use Rattle.compare_effects.proofs.sedhavil_at_least_hundredth_f64 as at-least-hundredth-f64
use Rattle.compare_effects.proofs.sedhavil_amplitude as amplitude
use Rattle.compare_effects.proofs.sedhavil_eq_amplitude as eq-amplitude
use Rattle.compare_effects.proofs.effects.sedhavil_volume_control as volume-control
use Rattle.compare_effects.proofs.effects.sedhavil_panning_control as panning-control
use Rattle.compare_effects.proofs.effects.sedhavil_distortion as distortion
use Rattle.compare_effects.proofs.effects.sedhavil_filter as filter
use Rattle.compare_effects.proofs.effects.sedhavil_eq_filter as eq-filter
use Rattle.compare_effects.proofs.effects.sedhavil_weigh as weigh
use Rattle.compare_effects.proofs.effects.sedhavil_coefficients as coefficients

pub sqrt_f32_single : Single sqrt-f32.Reads.Post
sqrt_f32_single κs a r r' s s' p q = p ∙ sym q

pub sqrt_f64_single : Single sqrt-f64.Reads.Post
sqrt_f64_single κs a r r' s s' p q = p ∙ sym q

pub as_f32_single : Single as_f32.Reads.Post
as_f32_single κs a r r' s s' p q = p ∙ sym q

pub abs_f32_single : Single abs-f32.Reads.Post
abs_f32_single κs a r r' s s' p q = p ∙ sym q

pub clamp_unit_f32_single : Single clamp-unit-f32.Reads.Post
clamp_unit_f32_single κs a r r' s s' p q = p ∙ sym q

pub clamp_unit_f64_single : Single clamp-unit-f64.Reads.Post
clamp_unit_f64_single κs a r r' s s' p q = p ∙ sym q

pub clamp_signed_unit_f32_single : Single clamp-signed-unit-f32.Reads.Post
clamp_signed_unit_f32_single κs a r r' s s' p q = p ∙ sym q

pub at_least_hundredth_f64_single : Single at-least-hundredth-f64.Reads.Post
at_least_hundredth_f64_single κs a r r' s s' p q = p ∙ sym q

pub amplitude_single : Single amplitude.Reads.Post
amplitude_single κs a r r' s s' p q = p ∙ sym q

pub eq_amplitude_single : Single eq-amplitude.Reads.Post
eq_amplitude_single κs a r r' s s' p q = p ∙ sym q

pub volume_control_single : Single volume-control.Reads.Post
volume_control_single κs a r r' s s' p q = p ∙ sym q

pub panning_control_single : Single panning-control.Reads.Post
panning_control_single κs a r r' s s' p q = p ∙ sym q

pub distortion_single : Single distortion.Reads.Post
distortion_single κs a r r' s s' p q = p ∙ sym q

pub filter_single : Single filter.Reads.Post
filter_single κs a r r' s s' p q = p ∙ sym q

pub eq_filter_single : Single eq-filter.Reads.Post
eq_filter_single κs a r r' s s' p q = p ∙ sym q

pub weigh_single : Single weigh.Reads.Post
weigh_single κs a r r' s s' p q = p ∙ sym q

pub coefficients_single : Single coefficients.Reads.Post
coefficients_single κs a r r' s s' p q = p ∙ sym q
