-- The measure of the loop is what is left of the data. Assumes nothing.
use Rattle.wav_stream.proofs.blocks.Given as goal

abbrev pub decreases-loop-remaining : goal.decreases-loop-remaining
decreases-loop-remaining g l = l.remaining
