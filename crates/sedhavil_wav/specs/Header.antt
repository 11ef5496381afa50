-- The answer to the header of a WAV file, as three numbers. Definitions only.
use Rattle.std.specs.Prelude.{Result, Ok, Err}
use Rattle.wav_header.specs.declared.Header.{Header}
use Rattle.wav_header.specs.declared.HeaderRefusal.{HeaderRefusal}
use Rattle.wav_header.specs.Header.{header_number}
use Rattle.sedhavil_wav.specs.declared.WavHeader.{WavHeader}

-- the three numbers of an answer: document 01's number (0 if the header is read), and the rate and the data size of a
-- header that is read, which are 0 for a refusal
unfoldable pub header_out : Result Header HeaderRefusal → WavHeader
header_out (Ok header) = record { number = header_number (Ok header); rate = header.rate; size = header.size }
header_out (Err refusal) = record { number = header_number (Err refusal); rate = 0; size = 0 }
