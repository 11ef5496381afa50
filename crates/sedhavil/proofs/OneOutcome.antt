-- Each exported function's promise admits one outcome: the answer, and all that it leaves. Assumes nothing.
use Rattle.std.proofs.Common.{sym, ◌∙◌}
use Rattle.float.proofs.Outcome.{Single, SingleLent}
use Rattle.line.specs.Held.{holds}
use Rattle.chain.specs.Chain.{state}
use Rattle.sedhavil.proofs.sedhavil_run as run
use Rattle.sedhavil.proofs.sedhavil_render as render
use Rattle.sedhavil.proofs.sedhavil_start as start
use Rattle.sedhavil.proofs.sedhavil_floats_needed as floats-needed
use Rattle.sedhavil.proofs.sedhavil_layout_version as layout-version

-- what `run` and `render` leave: samples, store, positions, floats and progress
pub run_single : SingleLent run.Reads.Post (λ κs s. state s.1.1.0.now s.1.1.1.1.1.0.now s.1.1.1.0.now s.1.1.1.1.0.now s.1.1.1.1.1.1.0.now)
run_single κs a r r' s s' p q = (p.0 ∙ sym q.0, p.1 ∙ sym q.1)

pub render_single : SingleLent render.Reads.Post (λ κs s. state s.1.1.0.now s.1.1.1.1.1.0.now s.1.1.1.0.now s.1.1.1.1.0.now s.1.1.1.1.1.1.0.now)
render_single κs a r r' s s' p q = (p.0 ∙ sym q.0, p.1 ∙ sym q.1)

-- what `start` leaves: store, positions and floats
pub start_single : SingleLent start.Reads.Post (λ κs s. holds s.1.1.1.1.0.now s.1.1.0.now s.1.1.1.0.now)
start_single κs a r r' s s' p q = (p.0 ∙ sym q.0, p.1 ∙ sym q.1)

pub floats_needed_single : Single floats-needed.Reads.Post
floats_needed_single κs a r r' s s' p q = p ∙ sym q

pub layout_version_single : Single layout-version.Reads.Post
layout_version_single κs a r r' s s' p q = p ∙ sym q
