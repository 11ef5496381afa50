-- The header of a WAV file and document 01's answers to it, as a table: the first row that applies gives the answer.
-- Definitions only.
use Rattle.std.specs.Prelude.{ℕ, ◌+◌, ◌*◌, ◌%◌, List, [], ◌∷◌, length, Result, Ok, Err}
use Rattle.theory_tables.specs.Condition.{Condition, less, differ, ◌or◌}
use Rattle.theory_tables.specs.Rows.{Row, row, given, first_row, ByTheTable}
use Rattle.wav_header.specs.declared.Header.{Header}
use Rattle.wav_header.specs.declared.HeaderRefusal.{HeaderRefusal}
use Rattle.wav_header.specs.declared.HeaderRefusal.TheVariants.{Names, Format, Rate, Size, Short}
use Rattle.wav_bytes.specs.Bytes.{two_at, four_at}

-- document 01's number of a refusal
abbrev pub refusal_number : HeaderRefusal → ℕ
refusal_number Names = 21
refusal_number Format = 22
refusal_number Rate = 23
refusal_number Size = 24
refusal_number Short = 25

-- document 01's number of an answer; 0 for a header that is read
abbrev pub header_number : Result Header HeaderRefusal → ℕ
header_number (Ok header) = 0
header_number (Err refusal) = refusal_number refusal

-- ---- the layout

-- the byte at which each field of a header starts, in the order of a file, and how many bytes the header has
pub record Layout : Type 0 where
  pub riff : ℕ
  pub riff_size : ℕ
  pub wave : ℕ
  pub fmt : ℕ
  pub fmt_size : ℕ
  pub tag : ℕ
  pub channels : ℕ
  pub rate : ℕ
  pub byte_rate : ℕ
  pub block : ℕ
  pub bits : ℕ
  pub data_name : ℕ
  pub size : ℕ
  pub length : ℕ

-- "the 44-byte layout of the Multimedia Programming Interface (RIFF, fmt of 16 bytes, data)"
abbrev pub plain : Layout
plain = record {
  riff = 0;
  riff_size = 4;
  wave = 8;
  fmt = 12;
  fmt_size = 16;
  tag = 20;
  channels = 22;
  rate = 24;
  byte_rate = 28;
  block = 32;
  bits = 34;
  data_name = 36;
  size = 40;
  length = 44;
}

-- the number that `four_at` reads where a chunk name stands, from the ASCII codes of its four letters
abbrev pub named : ℕ → ℕ → ℕ → ℕ → ℕ
named a b c d = a + 256 * b + 65536 * (c + 256 * d)

-- ---- the conditions, in document 01's words

-- "wrong chunk names, fmt size not 16, or RIFF size not data size + 36"
abbrev pub names_wrong : List ℕ → Condition
names_wrong bytes =
    differ (four_at bytes plain.riff) (named 82 73 70 70)
    or differ (four_at bytes plain.wave) (named 87 65 86 69)
    or differ (four_at bytes plain.fmt) (named 102 109 116 32)
    or differ (four_at bytes plain.data_name) (named 100 97 116 97)
    or differ (four_at bytes plain.fmt_size) 16
    or differ (four_at bytes plain.riff_size) (four_at bytes plain.size + 36)

-- "not tag 1, two channels, 16 bits, block 4, byte rate 4R"
abbrev pub format_wrong : List ℕ → Condition
format_wrong bytes =
    differ (two_at bytes plain.tag) 1
    or differ (two_at bytes plain.channels) 2
    or differ (two_at bytes plain.bits) 16
    or differ (two_at bytes plain.block) 4
    or differ (four_at bytes plain.byte_rate) (4 * four_at bytes plain.rate)

-- "rate out of range": below 8,000, above 192,000, or above the highest that the program takes
abbrev pub rate_wrong : ℕ → ℕ → Condition
rate_wrong rate highest = less rate 8000 or less 192000 rate or less highest rate

-- "data size not a multiple of 4"
abbrev pub size_wrong : List ℕ → Condition
size_wrong bytes = differ (four_at bytes plain.size % 4) 0

-- ---- the table

-- document 01's refusals, "tested in that order", with 25 before 21; a header has no places, so every place is 0
abbrev pub header_rows : List ℕ → ℕ → List (Row (Result Header HeaderRefusal))
header_rows bytes highest =
    row 25 (given 0 (less (length bytes) plain.length)) (λ p. Err Short)
    ∷ row 21 (given 0 (names_wrong bytes)) (λ p. Err Names)
    ∷ row 22 (given 0 (format_wrong bytes)) (λ p. Err Format)
    ∷ row 23 (given 0 (rate_wrong (four_at bytes plain.rate) highest)) (λ p. Err Rate)
    ∷ row 24 (given 0 (size_wrong bytes)) (λ p. Err Size)
    ∷ []

-- the answer where no row applies: the header's rate and data size
abbrev pub read_of : List ℕ → Result Header HeaderRefusal
read_of bytes = Ok (record { rate = four_at bytes plain.rate; size = four_at bytes plain.size })

-- the answer to a header, for a program that takes rates up to `highest`
unfoldable pub header_of : List ℕ → ℕ → Result Header HeaderRefusal
header_of bytes highest = first_row (header_rows bytes highest) (read_of bytes)

-- `header_of` in plain logic: it gives the first row that applies and no other, and `read_of` exactly where none
-- applies
abbrev pub HeaderTabled : Type 0
HeaderTabled =
    (bytes : List ℕ) (highest : ℕ)
    → ByTheTable header_number (λ h. 0) (header_rows bytes highest) (read_of bytes) (header_of bytes highest)
