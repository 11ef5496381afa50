-- Stretches of places that lie apart do not touch one another, in the store, the positions and the floats. Assumes nothing.
use Rattle.std.proofs.Common.{◌≡◌, List, ℕ, ◌+◌, ◌*◌, ◌-◌, ◌≤◌, arith, length}
use Rattle.line.specs.Held.{Held, holds}
use Rattle.line.proofs.Keeps.{Same}
use Rattle.theory_order.specs.Stretch.{splice}
use Rattle.theory_order.proofs.Stretches.{length_part, length_splice, part_before, part_after, part_same, drop_after, splice_comm}
use Rattle.stage.specs.declared.setup.Setup.{Setup}
use Rattle.memories.specs.Sizes.{place_positions, place_floats}
use Rattle.stage.specs.Setup.{used_of}
use Rattle.line_layout.specs.Layout.{start_of, needed_of}
use Rattle.line_layout.proofs.LineStarts.{start_le}
use Rattle.chain.specs.Chain.{stretch, replaced, Room}
use Rattle.chain.specs.Demands.{Outside}

-- just what the places from i up to e hold
pub record Fills (setup : Setup) (i e : ℕ) (a : Held) : Type 0 where
  pub store : length a.store ≡ start_of setup e - start_of setup i
  pub positions : length a.positions ≡ place_positions * e - place_positions * i
  pub floats : length a.floats ≡ place_floats * e - place_floats * i

pub outside : {A : Type 0} (a e : ℕ) (ys xs : List A) → a ≤ e → length ys ≡ e - a → e ≤ length xs → Outside a e xs (splice a ys xs)
outside a e ys xs h k m = record { lengths = length_splice a ys xs (omega arith); before = part_before 0 a a ys xs (omega arith) (omega arith); after = drop_after a ys e xs (omega arith) (omega arith) }

module _ (setup : Setup) (h : Held) (room : Room setup h) where
  abbrev start : ℕ → ℕ
  start i = start_of setup i

  module _ (i e : ℕ) (ie : i ≤ e) (ec : e ≤ used_of setup) where
    starts_ie : start i ≤ start e
    starts_ie = start_le setup i e ie

    starts_ec : start e ≤ needed_of setup
    starts_ec = start_le setup e (used_of setup) ec

    pub stretch_fills : Fills setup i e (stretch setup i e h)
    unfolding stretch
    stretch_fills = record {
      store = length_part (start i) (start e - start i) h.store (omega (arith, starts_ie, starts_ec, room.store));
      positions = length_part (place_positions * i) (place_positions * e - place_positions * i) h.positions (omega (arith, room.positions));
      floats = length_part (place_floats * i) (place_floats * e - place_floats * i) h.floats (omega (arith, room.floats));
    }

    module _ (a : Held) (f : Fills setup i e a) where
      in_store : start i + length a.store ≤ length h.store
      in_store = omega (arith, starts_ie, starts_ec, room.store, f.store)

      in_positions : place_positions * i + length a.positions ≤ length h.positions
      in_positions = omega (arith, f.positions, room.positions)

      in_floats : place_floats * i + length a.floats ≤ length h.floats
      in_floats = omega (arith, f.floats, room.floats)

      pub replaced_same : Same (replaced setup i a h) h
      unfolding replaced
      replaced_same = record {
        store = length_splice (start i) a.store h.store in_store;
        positions = length_splice (place_positions * i) a.positions h.positions in_positions;
        floats = length_splice (place_floats * i) a.floats h.floats in_floats;
      }

      -- what was put in is what then stands there, and around it nothing has changed
      pub stretch_same : stretch setup i e (replaced setup i a h) ≡ a
      unfolding stretch replaced
      stretch_same =
          λ t. holds
          (part_same (start i) (start e - start i) a.store h.store f.store (omega (arith, in_store)) t)
          (part_same (place_positions * i) (place_positions * e - place_positions * i) a.positions h.positions f.positions (omega (arith, in_positions)) t)
          (part_same (place_floats * i) (place_floats * e - place_floats * i) a.floats h.floats f.floats (omega (arith, in_floats)) t)

      pub outside_store : Outside (start i) (start e) h.store (replaced setup i a h).store
      unfolding replaced
      outside_store = outside (start i) (start e) a.store h.store starts_ie f.store (omega (arith, starts_ec, room.store))

      pub outside_positions : Outside (place_positions * i) (place_positions * e) h.positions (replaced setup i a h).positions
      unfolding replaced
      outside_positions = outside (place_positions * i) (place_positions * e) a.positions h.positions (omega arith) f.positions (omega (arith, room.positions))

      pub outside_floats : Outside (place_floats * i) (place_floats * e) h.floats (replaced setup i a h).floats
      unfolding replaced
      outside_floats = outside (place_floats * i) (place_floats * e) a.floats h.floats (omega arith) f.floats (omega (arith, room.floats))

      pub replaced_room : Room setup (replaced setup i a h)
      replaced_room = record { store = omega (arith, replaced_same.store, room.store); positions = omega (arith, replaced_same.positions, room.positions); floats = omega (arith, replaced_same.floats, room.floats) }

      pub stretch_later : (j g : ℕ) → e ≤ j → stretch setup j g (replaced setup i a h) ≡ stretch setup j g h
      unfolding stretch replaced
      stretch_later j g k =
          λ t. holds
          (part_after (start j) (start g - start j) (start i) a.store h.store (omega (arith, starts_ie, start_le setup e j k, f.store)) in_store t)
          (part_after (place_positions * j) (place_positions * g - place_positions * j) (place_positions * i) a.positions h.positions (omega (arith, f.positions)) in_positions t)
          (part_after (place_floats * j) (place_floats * g - place_floats * j) (place_floats * i) a.floats h.floats (omega (arith, f.floats)) in_floats t)

      pub stretch_earlier : (j g : ℕ) → j ≤ g → g ≤ i → stretch setup j g (replaced setup i a h) ≡ stretch setup j g h
      unfolding stretch replaced
      stretch_earlier j g k m =
          λ t. holds
          (part_before (start j) (start g - start j) (start i) a.store h.store (omega (arith, start_le setup j g k, start_le setup g i m)) (omega (arith, in_store)) t)
          (part_before (place_positions * j) (place_positions * g - place_positions * j) (place_positions * i) a.positions h.positions (omega arith) (omega (arith, room.positions)) t)
          (part_before (place_floats * j) (place_floats * g - place_floats * j) (place_floats * i) a.floats h.floats (omega arith) (omega (arith, room.floats)) t)

      pub replaced_comm : (j g : ℕ) (b : Held) → e ≤ j → j ≤ g → g ≤ used_of setup → Fills setup j g b → replaced setup i a (replaced setup j b h) ≡ replaced setup j b (replaced setup i a h)
      unfolding replaced
      replaced_comm j g b k m n q =
          λ t. holds
          (splice_comm (start i) a.store (start j) b.store h.store (omega (arith, starts_ie, start_le setup e j k, f.store)) (omega (arith, start_le setup j g m, start_le setup g (used_of setup) n, q.store, room.store)) t)
          (splice_comm (place_positions * i) a.positions (place_positions * j) b.positions h.positions (omega (arith, f.positions)) (omega (arith, q.positions, room.positions)) t)
          (splice_comm (place_floats * i) a.floats (place_floats * j) b.floats h.floats (omega (arith, f.floats)) (omega (arith, q.floats, room.floats)) t)
