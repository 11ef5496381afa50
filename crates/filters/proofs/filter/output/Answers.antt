use Rattle.filters.specs.Filter.{output_of}
use Rattle.filters.proofs.filter.output.Goals as goal

pub returns-in-LowPass : goal.returns-in-LowPass
unfolding output_of
returns-in-LowPass c = rw c.in-LowPass.is

pub returns-in-BandPass : goal.returns-in-BandPass
unfolding output_of
returns-in-BandPass c = rw c.in-BandPass.is

pub returns-in-HighPass : goal.returns-in-HighPass
unfolding output_of
returns-in-HighPass c = rw (c.in-HighPass.is, c.sub-in-HighPass.ensures, c.sub.ensures, c.mul.ensures)

pub returns-in-Notch : goal.returns-in-Notch
unfolding output_of
returns-in-Notch c = rw (c.in-Notch.is, c.sub-in-Notch.ensures, c.mul-in-Notch.ensures)
