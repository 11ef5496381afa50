-- Document 01's examples, P1 to P13, as one list. Each has the numbers that come of the definitions, those that the
-- public contracts cite, and the numbers that the document says. A float is written as its bits. Definitions only.
use Rattle.std.specs.Prelude.{◌≡◌, List, [], ◌∷◌, map, ℕ, ◌+◌, ◌^◌, pos, negsuc, replicate, Float}
use Rattle.std.specs.Float.{binary32, binary64}
use Rattle.std.specs.Float.Ieee.{neg, to_bits}
use Rattle.float.specs.Literal.{literal}
use Rattle.rounding.specs.Root.{sqrt_of}
use Rattle.rounding.specs.Narrow.{narrow_of}
use Rattle.decibels.specs.Amplitude.{amplitude_of}
use Rattle.frame.specs.declared.Frame.{Frame}
use Rattle.frame.specs.Operations.{from_mono_of}
use Rattle.frame.specs.Panning.{panned_of}
use Rattle.plain_effects.specs.declared.distortion.DistortionKind.TheVariants.{HardClip, SoftClip}
use Rattle.plain_effects.specs.Distortion.{distortion_of}
use Rattle.line.specs.AllPass.{passed_of, pass_line_of}
use Rattle.line.specs.Comb.{combed_of, comb_line_of}
use Rattle.reverb_tuning.specs.Tuning.{length_of}
use Rattle.memories.specs.Sizes.{places, all_positions, all_floats}
use Rattle.stage.specs.declared.kind.Stage.TheVariants.{VolumeControl, Delay}
use Rattle.stage.specs.declared.setup.Setup.{Setup}
use Rattle.stage.specs.Setup.{empty_setup, with_stage}
use Rattle.answer.specs.Answer.{number_of, place_of}
use Rattle.refusals.specs.Refusals.{answer_of}
use Rattle.chain.specs.Chain.{state}
use Rattle.chain.specs.Run.{rendered_of}

-- an example: the numbers that the definitions give, and those that the document says
pub record Example : Type 0 where
  pub comes : List ℕ
  pub said : List ℕ

-- the example with these two lists of numbers
abbrev pub example : List ℕ → List ℕ → Example
example comes said = record { comes = comes; said = said }

-- ---- numbers as the document writes them

-- a whole number, as an f32
abbrev pub number : ℕ → Float
number n = literal binary32 n 1

-- the fraction a / b, as an f32
abbrev pub ratio : ℕ → ℕ → Float
ratio a b = literal binary32 a b

-- the bits of an f32
abbrev pub bits : Float → ℕ
bits x = to_bits binary32 x

-- the bits of a frame, left and right
abbrev pub frame_bits : Frame → List ℕ
frame_bits x = bits x.left ∷ bits x.right ∷ []

-- the bits of 1
abbrev pub one : ℕ
one = 0x3f80_0000

-- the bits of 0.5
abbrev pub half : ℕ
half = 0x3f00_0000

-- ---- P10: an all-pass, which is a position and a line

-- the bits of what the all-pass gives for the input x
abbrev pub passed : Float → ℕ × List Float → ℕ
passed x s = bits (passed_of x s.0 s.1).output

-- an all-pass of length 1, before its first input
abbrev pub fresh_pass : ℕ × List Float
fresh_pass = (0, number 0 ∷ [])

-- the all-pass after the input x
abbrev pub pass_then : Float → ℕ × List Float → ℕ × List Float
pass_then x s = ((passed_of x s.0 s.1).at, pass_line_of x s.0 s.1)

-- ---- P11: a comb with feedback 0.5 and damping 0, which is a position, a remembered float and a line

-- the bits of what the comb gives; its input does not matter, since the old float is read first
abbrev pub combed : ℕ × Float × List Float → ℕ
combed s = bits (combed_of (number 0) s.0 s.1 s.2).output

-- a comb of length 1, before its first input
abbrev pub fresh_comb : ℕ × Float × List Float
fresh_comb = (0, number 0, number 0 ∷ [])

-- the comb after the input x
abbrev pub comb_then : Float → ℕ × Float × List Float → ℕ × Float × List Float
comb_then x s = (
  (combed_of (number 0) s.0 s.1 s.2).at,
  (combed_of (number 0) s.0 s.1 s.2).filter_store,
  comb_line_of (ratio 1 2) (number 0) x s.0 s.1 s.2,
)

-- ---- P12: a block that is rendered

-- the bits of the samples that `render` leaves, with memories, progress and a store of so many floats at zero
abbrev pub rendered : Setup → ℕ → List Float → List ℕ
rendered setup floats samples =
    let block =
    state samples (replicate floats (number 0)) (replicate all_positions 0) (replicate all_floats (number 0))
    (replicate places 0) in
    map bits (rendered_of setup block).samples

-- ---- P13: "two stages, one frame"

-- the number and the place of the answer to an order, for two volumes of 0 dB and one frame of zeros
abbrev pub told : List ℕ → List ℕ
told order =
    let volumes = with_stage (with_stage (empty_setup 44100) (VolumeControl (pos 0))) (VolumeControl (pos 0)) in
    let answer =
    answer_of volumes 0 (number 0 ∷ number 0 ∷ []) (replicate all_positions 0) (replicate places 0) order in
    number_of answer ∷ place_of answer ∷ []

-- ---- the list

-- all examples, each below the document's words
abbrev pub examples : List Example
examples =
    -- P1 "sqrt(0.25) = 0.5"
    example (bits (sqrt_of binary32 (ratio 1 4)) ∷ []) (half ∷ [])
    -- P2 "sqrt(-0) = -0"
    ∷ example (bits (sqrt_of binary32 (neg (number 0))) ∷ []) (0x8000_0000 ∷ [])
    -- P3 "sqrt(0.5) has bits 3F3504F3"
    ∷ example (bits (sqrt_of binary32 (ratio 1 2)) ∷ []) (0x3f35_04f3 ∷ [])
    -- P4 "f64 1 + 2^-24 narrows to 1; 1 + 2^-24 + 2^-52 narrows to 1 + 2^-23"
    ∷ example
    (bits (narrow_of binary32 (literal binary64 (2 ^ 24 + 1) (2 ^ 24)))
    ∷ bits (narrow_of binary32 (literal binary64 (2 ^ 52 + 2 ^ 28 + 1) (2 ^ 52)))
    ∷ [])
    (one ∷ 0x3f80_0001 ∷ [])
    -- P5 "0 dB gives 1, 20 dB gives 10, -60 dB gives 0"
    ∷ example (bits (amplitude_of (pos 0)) ∷ bits (amplitude_of (pos 20)) ∷ bits (amplitude_of (negsuc 59)) ∷ [])
    (one ∷ bits (number 10) ∷ 0 ∷ [])
    -- P6 "at 48,000 line 441 has 480 floats, 1617 has 1760, 1116 has 1214"
    ∷ example (length_of 441 48000 ∷ length_of 1617 48000 ∷ length_of 1116 48000 ∷ []) (480 ∷ 1760 ∷ 1214 ∷ [])
    -- P7 "hard clip of 3 at drive 0, mix 1: 1. Soft clip of 1: 0.5"
    ∷ example (frame_bits (distortion_of HardClip (pos 0) (number 1) (from_mono_of (number 3)))) (one ∷ one ∷ [])
    ∷ example (frame_bits (distortion_of SoftClip (pos 0) (number 1) (from_mono_of (number 1)))) (half ∷ half ∷ [])
    -- P8 "panning -1 on (1, 1): left bits 3FB504F3, right 0"
    ∷ example (frame_bits (panned_of (from_mono_of (number 1)) (neg (number 1)))) (0x3fb5_04f3 ∷ 0 ∷ [])
    -- P9 "panning 2^-30 on (1, 1): both 1 - 2^-24"
    ∷ example (frame_bits (panned_of (from_mono_of (number 1)) (ratio 1 (2 ^ 30)))) (0x3f7f_ffff ∷ 0x3f7f_ffff ∷ [])
    -- P10 "all-pass of length 1, inputs 1, 0, 0: -1, 1, 0.5"
    ∷ example
    (passed (number 1) fresh_pass
    ∷ passed (number 0) (pass_then (number 1) fresh_pass)
    ∷ passed (number 0) (pass_then (number 0) (pass_then (number 1) fresh_pass))
    ∷ [])
    (0xbf80_0000 ∷ one ∷ half ∷ [])
    -- P11 "comb of length 1, feedback 0.5, damping 0, inputs 1, 0, 0: 0, 1, 0.5"
    ∷ example
    (combed fresh_comb
    ∷ combed (comb_then (number 1) fresh_comb)
    ∷ combed (comb_then (number 0) (comb_then (number 1) fresh_comb))
    ∷ [])
    (0 ∷ one ∷ half ∷ [])
    -- P12 "delay of 1 frame, feedback 0 dB, mix 1, frames 1, 0, 0: 0, 1, 1"
    ∷ example
    (rendered (with_stage (empty_setup 44100) (Delay 1 (pos 0) (number 1) 0)) 2
    (number 1 ∷ number 1 ∷ number 0 ∷ number 0 ∷ number 0 ∷ number 0 ∷ []))
    (0 ∷ 0 ∷ one ∷ one ∷ one ∷ one ∷ [])
    -- P13 "two stages, one frame: order 1,0 gives refusal 11 at 0; order 0,1,0 at 2; order 0,1 is taken"
    ∷ example (told (1 ∷ 0 ∷ [])) (11 ∷ 0 ∷ [])
    ∷ example (told (0 ∷ 1 ∷ 0 ∷ [])) (11 ∷ 2 ∷ [])
    ∷ example (told (0 ∷ 1 ∷ [])) (0 ∷ 0 ∷ [])
    ∷ []

-- every example in a list holds: what the definitions give is what the document says
abbrev pub Hold : List Example → Type 0
Hold [] = Unit {0}
Hold (r ∷ rs) = (r.comes ≡ r.said) × Hold rs

-- the "one claim over all its rows": P1 to P13 hold
abbrev pub ExamplesHold : Type 0
ExamplesHold = Hold examples
