-- Parts of what is held, joined and taken apart again. Assumes nothing.
use Rattle.std.proofs.Common.{◌≡◌, [], append-nil, append_assoc, ℕ, ◌+◌, arith, length, length-append, take_at, drop_at}
use Rattle.line.specs.Held.{Held, holds, front, back, joined}

-- so many floats of the store, positions and floats
pub record HeldSizes (n p f : ℕ) (h : Held) : Type 0 where
  pub store : length h.store ≡ n
  pub positions : length h.positions ≡ p
  pub floats : length h.floats ≡ f

pub sizes_joined : (a b : Held) (n p f m q g : ℕ) → HeldSizes n p f a → HeldSizes m q g b → HeldSizes (n + m) (p + q) (f + g) (joined a b)
unfolding joined
sizes_joined a b n p f m q g s t = record {
  store = omega (arith, length-append a.store b.store, s.store, t.store);
  positions = omega (arith, length-append a.positions b.positions, s.positions, t.positions);
  floats = omega (arith, length-append a.floats b.floats, s.floats, t.floats);
}

module _ (a b : Held) (n p f : ℕ) (s : HeldSizes n p f a) where
  pub front_joined : front n p f (joined a b) ≡ a
  unfolding front joined
  front_joined = λ t. record {
    store = take_at a.store b.store n s.store t;
    positions = take_at a.positions b.positions p s.positions t;
    floats = take_at a.floats b.floats f s.floats t;
  }

  pub back_joined : back n p f (joined a b) ≡ b
  unfolding back joined
  back_joined = λ t. record {
    store = drop_at a.store b.store n s.store t;
    positions = drop_at a.positions b.positions p s.positions t;
    floats = drop_at a.floats b.floats f s.floats t;
  }

pub joined_none : (a : Held) → joined a (holds [] [] []) ≡ a
unfolding joined
joined_none a = λ t. record { store = append-nil a.store t; positions = append-nil a.positions t; floats = append-nil a.floats t }

pub joined_assoc : (a b c : Held) → joined (joined a b) c ≡ joined a (joined b c)
unfolding joined
joined_assoc a b c = λ t. record {
  store = append_assoc a.store b.store c.store t;
  positions = append_assoc a.positions b.positions c.positions t;
  floats = append_assoc a.floats b.floats c.floats t;
}
