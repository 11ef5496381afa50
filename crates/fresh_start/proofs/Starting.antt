-- What a fresh start leaves in the store, by the answer. Assumes nothing.
use Rattle.std.proofs.Common.{◌≡◌, true, false, List, Float, length}
use Rattle.stage.specs.declared.setup.Setup.{Setup}
use Rattle.line_layout.specs.Layout.{needed_of}
use Rattle.answer.specs.Answer.{accepted_of}
use Rattle.refusals.specs.Refusals.{chain_answer}
use Rattle.fresh_start.specs.Start.{cleared_to, started_of}

module _ (setup : Setup) (store : List Float) where
  pub started : accepted_of (chain_answer setup (needed_of setup) (length store)) ≡ true → started_of setup store ≡ cleared_to (needed_of setup) store
  unfolding started_of
  started h = rw h

  pub not_started : accepted_of (chain_answer setup (needed_of setup) (length store)) ≡ false → started_of setup store ≡ store
  unfolding started_of
  not_started h = rw h
