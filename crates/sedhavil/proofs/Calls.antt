-- Laws of reading a call: what it gives, and what it says of the lengths. Assumes nothing.
use Rattle.std.proofs.Common.{◌≡◌, refl, sym, ap, ◌∙◌, true≢false, Bool, true, false, cond, ℕ, List, length, Float, eqb, eqb-true, Result, Ok, Err, is_ok}
use mathlib.Core.Logic.Dec
use native.Mathlib.Decide.{ℕ_discrete}
use Rattle.memories.specs.Sizes.{places, all_positions, all_floats}
use Rattle.stage.specs.declared.setup.Setup.{Setup}
use Rattle.stage_words.specs.Words.{setup_of}
use Rattle.sedhavil.specs.declared.Reply.{Reply}
use Rattle.sedhavil.specs.declared.read.Call.{Call}
use Rattle.sedhavil.specs.Call.{fault_of, read}
use Rattle.sedhavil.specs.Read.{carried_in, call_of, setup_or_fault}
use Rattle.sedhavil.specs.Face.{words_fault}
use Rattle.sedhavil.proofs.Tabled.{fault_tabled}

-- ---- what is read, or a fault
module _ {A : Type 0} where
  abbrev given_or : A → Result A Reply → A
  given_or a (Ok b) = b
  given_or a (Err fault) = a

  abbrev fault_or : Reply → Result A Reply → Reply
  fault_or fault (Ok a) = fault
  fault_or fault (Err other) = other

  pub read_ok : (fault : Reply) {a b : A} → Ok a ≡ read fault (Ok b) (Err fault) → (eqb fault.number 0 ≡ true) × (a ≡ b)
  read_ok fault {a} {b} = go (eqb fault.number 0)
    where
      go : (t : Bool) → Ok a ≡ cond t (Ok b) (Err fault) → (t ≡ true) × (a ≡ b)
      go true e = (refl, ap (given_or a) e)
      go false e = absurd (true≢false (ap is_ok e))

  pub read_err : (fault : Reply) {other : Reply} (b : A) → Err other ≡ read fault (Ok b) (Err fault) → (eqb fault.number 0 ≡ false) × (other ≡ fault)
  read_err fault {other} b = go (eqb fault.number 0)
    where
      go : (t : Bool) → Err other ≡ cond t (Ok b) (Err fault) → (t ≡ false) × (other ≡ fault)
      go true e = absurd (true≢false (sym (ap is_ok e)))
      go false e = (refl, ap (fault_or other) e)

-- ---- what a call that can be read says of the lengths
pub record Sized (positions floats progress : ℕ) : Type 0 where
  pub positions_all : positions ≡ all_positions
  pub floats_all : floats ≡ all_floats
  pub progress_all : progress ≡ places

pub sized : (words : List ℕ) {p f g : ℕ} → eqb (fault_of words p f g).number 0 ≡ true → Sized p f g
sized words {p} {f} {g} h =
    let none = (fault_tabled words p f g).clear (eqb-true _ 0 h) in
    record {
      positions_all = (Dec.not-not (ℕ_discrete p all_positions)).0 none.1.0;
      floats_all = (Dec.not-not (ℕ_discrete f all_floats)).0 none.1.1.0;
      progress_all = (Dec.not-not (ℕ_discrete g places)).0 none.1.1.1.0;
    }

-- ---- a call on what is lent
module _ (rate : ℕ) (words p : List ℕ) (f : List Float) (g : List ℕ) where
  abbrev fault : Reply
  fault = fault_of words (length p) (length f) (length g)

  -- the call as it is read
  abbrev told : Call
  told = record { setup = setup_of rate words; carried = carried_in p f g }

  pub call_ok : {call : Call} → Ok call ≡ call_of rate words p f g → (eqb fault.number 0 ≡ true) × (call ≡ told)
  unfolding call_of
  call_ok e = read_ok fault e

  pub call_err : {other : Reply} → Err other ≡ call_of rate words p f g → (eqb fault.number 0 ≡ false) × (other ≡ fault)
  unfolding call_of
  call_err e = read_err fault (told) e

  pub call_sized : {call : Call} → Ok call ≡ call_of rate words p f g → Sized (length p) (length f) (length g)
  call_sized e = sized words (call_ok e).0

-- ---- words alone
pub setup_ok : (rate : ℕ) (words : List ℕ) {setup : Setup} → Ok setup ≡ setup_or_fault rate words → (eqb (words_fault words).number 0 ≡ true) × (setup ≡ setup_of rate words)
unfolding setup_or_fault
setup_ok rate words e = read_ok (words_fault words) e

pub setup_err : (rate : ℕ) (words : List ℕ) {other : Reply} → Err other ≡ setup_or_fault rate words → (eqb (words_fault words).number 0 ≡ false) × (other ≡ words_fault words)
unfolding setup_or_fault
setup_err rate words e = read_err (words_fault words) (setup_of rate words) e
