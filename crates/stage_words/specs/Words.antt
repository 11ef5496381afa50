-- How a chain is read from words of 64 bits: a stage is twelve words, its kind and then its numbers, and words that it
-- does not use are 0. Definitions only.
use Rattle.std.specs.Prelude.{Bool, false, ◌&&◌, ◌||◌, cond, ltb, leb, eqb, List, length, get_or, Float}
use Rattle.std.specs.Prelude.{ℕ, zero, suc, ◌+◌, ◌*◌, ◌-◌, ◌/◌, ◌^◌, ℤ, pos, negsuc}
use Rattle.std.specs.Float.{binary32, binary64}
use Rattle.std.specs.Float.Ieee.{of_bits}
use Rattle.theory_tables.specs.Condition.{Condition, fails}
use Rattle.kind_codes.specs.Codes.{clip_at, mode_at, eq_kind_at}
use Rattle.memories.specs.Sizes.{places}
use Rattle.stage.specs.Listed.{list_of}
use Rattle.stage.specs.declared.kind.Stage.{Stage}
use Rattle.stage.specs.declared.kind.Stage.TheVariants.{VolumeControl, PanningControl, Distortion}
use Rattle.stage.specs.declared.kind.Stage.TheVariants.{Filter, EqFilter, Reverb, Delay}
use Rattle.stage.specs.declared.setup.Setup.{Setup}
use Rattle.stage_words.specs.declared.StageWords.{StageWords}

-- ---- the layout

-- how many words a stage has
abbrev pub word_count : ℕ
word_count = 12

-- the version of the layout, which goes up with each change of what a word or a memory means
abbrev pub layout_version : ℕ
layout_version = 1

-- ---- one word; a word that does not fit is read as 0, which does not matter: `is_stage` says no to its stage

-- the word is a number of 32 bits: its high half is zero
abbrev pub is_short : ℕ → Bool
is_short w = ltb w (2 ^ 32)

-- the number of 32 bits that the word is; 0 where it is none
unfoldable pub short_of : ℕ → ℕ
short_of w = cond (is_short w) w 0

-- the word is whole dB from -2^31 to 2^31 - 1, in two's complement: -n is 2^64 - n
abbrev pub is_level : ℕ → Bool
is_level w = ltb w (2 ^ 31) || leb (2 ^ 64 - 2 ^ 31) w

-- the whole dB that the word is; 0 where it is none
unfoldable pub level_of : ℕ → ℤ
level_of w = cond (ltb w (2 ^ 31)) (pos w) (cond (leb (2 ^ 64 - 2 ^ 31) w) (negsuc (2 ^ 64 - 1 - w)) (pos 0))

-- the f32 whose bits are the low half of the word; 0 where the high half is not zero
unfoldable pub single_of : ℕ → Float
unfolding short_of
single_of w = of_bits binary32 (short_of w)

-- the f64 whose bits are the word
abbrev pub double_of : ℕ → Float
double_of w = of_bits binary64 w

-- ---- a stage's words: the kind by its place in document 01's list, then its numbers in the order of `Stage`

-- the words are a stage: there is such a kind and such a clip, mode or EQ kind, each number fits its type, and all
-- words after the last that the kind uses are 0
unfoldable pub is_stage : StageWords → Bool
is_stage w =
    cond (eqb w.kind 0) (leb w.length 2 && is_level w.a)
    (cond (eqb w.kind 1) (leb w.length 2 && is_short w.a)
    (cond (eqb w.kind 2) (leb w.length 4 && (ltb w.a 2 && (is_level w.b && is_short w.c)))
    (cond (eqb w.kind 3) (leb w.length 5 && (ltb w.a 4 && is_short w.d))
    (cond (eqb w.kind 4) (leb w.length 5 && (ltb w.a 3 && is_level w.c))
    (cond (eqb w.kind 5)
    (leb w.length 5 && ((is_short w.a && is_short w.b) && (is_short w.c && is_short w.d)))
    (cond (eqb w.kind 6) (leb w.length 5 && (is_short w.a && (is_level w.b && is_short w.c)))
    false))))))

-- the stage of a kind that has lines: kind 5 is a reverb, any other a delay
unfoldable pub line_stage_of : StageWords → Stage
line_stage_of w =
    cond (eqb w.kind 5) (Reverb (single_of w.a) (single_of w.b) (single_of w.c) (single_of w.d))
    (Delay (short_of w.a) (level_of w.b) (single_of w.c) w.d)

-- the stage that the words are; where they are none (`is_stage`), it does not matter which stage this gives
unfoldable pub stage_of : StageWords → Stage
stage_of w =
    cond (eqb w.kind 0) (VolumeControl (level_of w.a))
    (cond (eqb w.kind 1) (PanningControl (single_of w.a))
    (cond (eqb w.kind 2) (Distortion (clip_at w.a) (level_of w.b) (single_of w.c))
    (cond (eqb w.kind 3) (Filter (mode_at w.a) (double_of w.b) (double_of w.c) (single_of w.d))
    (cond (eqb w.kind 4) (EqFilter (eq_kind_at w.a) (double_of w.b) (level_of w.c) (double_of w.d))
    (line_stage_of w)))))

-- ---- a list of words; past its end all words are 0, which is a volume of 0 dB

-- the word at place i; 0 past the end
abbrev pub word_at : List ℕ → ℕ → ℕ
word_at words i = get_or words i 0

-- how many of the n words from `at` on are left without the zeros at their end
unfoldable pub length_from : List ℕ → ℕ → ℕ → ℕ
length_from words at zero = 0
length_from words at (suc n) = cond (eqb (word_at words (at + n)) 0) (length_from words at n) (suc n)

-- the words of the stage at i
abbrev pub stage_words : List ℕ → ℕ → StageWords
stage_words words i =
    record {
      kind = word_at words (word_count * i);
      a = word_at words (word_count * i + 1);
      b = word_at words (word_count * i + 2);
      c = word_at words (word_count * i + 3);
      d = word_at words (word_count * i + 4);
      length = length_from words (word_count * i) word_count;
    }

-- how many stages the words are; fewer than twelve words at the end are left out
abbrev pub count_of : List ℕ → ℕ
count_of words = length words / word_count

-- the words at list place i are no stage
abbrev pub unknown_at : List ℕ → ℕ → Condition
unknown_at words i = fails (is_stage (stage_words words i))

-- the chain that the words are, at this rate; stages past the 16th are counted and not kept
unfoldable pub setup_of : ℕ → List ℕ → Setup
setup_of rate words =
    record {
      rate = rate;
      count = count_of words;
      slots = list_of (λ i. record { stage = stage_of (stage_words words i) }) places;
    }
