-- Where the effects of a list stand: its stages at their list places, and the top effects at those of the top stages. Assumes nothing.
use Rattle.std.proofs.Common.{◌≡◌, refl, ap, sym, ◌∙◌, subst, List, [], ◌∷◌, ◌++◌, map, append-nil, append_assoc, ℕ, zero, suc, ◌+◌, ◌*◌, ◌≤◌, ◌<◌, arith, add-one, length, get_or, take, drop, length-append, drop-cons}
use Rattle.line.specs.Held.{Held, holds, joined}
use Rattle.stage.specs.declared.kind.Stage.{Stage}
use Rattle.stage.specs.declared.setup.Slot.{Slot}
use Rattle.stage.specs.declared.setup.Setup.{Setup}
use Rattle.stage.specs.Setup.{unused, stage_at, used_of}
use Rattle.stage.specs.Listed.{list_from}
use Rattle.top_stages.specs.Tops.{top_at, tops_of}
use Rattle.top_stages.proofs.TopStages.{top_zero, top_more, top_past, top_le}
use Rattle.theory_effects.specs.Effects.{Effect, Effects, Spare, none, next, appended, how_many}
use Rattle.theory_effects.specs.Standing.{stages_in, stages_of, held_in, held_of, Full, AllFull}
use Rattle.theory_effects.proofs.Joined.{joined_assoc}
use Rattle.theory_effects.proofs.Sized.{Stand, stand_parts}
use Rattle.theory_effects.proofs.Steps.{next_is}

-- ---- the stages

module _ (setup : Setup) where
  abbrev stage_of : Slot → Stage
  stage_of slot = slot.stage

  -- the n stages from list place i on, in both readings
  listed_from : (n i : ℕ) → i + n ≤ length setup.slots → list_from (stage_at setup) i n ≡ map stage_of (take n (drop i setup.slots))
  unfolding list_from
  listed_from zero i h = refl
  listed_from (suc n) i h = rw (drop-cons setup.slots i unused (omega arith)) (ap {B = List Stage} (λ rest. stage_at setup i ∷ rest) (listed_from n (suc i) (omega arith)))

  pub stand_listed : (n i : ℕ) → Stand setup (list_from (stage_at setup) i n) i
  unfolding list_from
  stand_listed zero i = tt
  stand_listed (suc n) i = (refl, rw add-one (stand_listed n (suc i)))

  pub listed_are : (n : ℕ) → n ≤ length setup.slots → list_from (stage_at setup) 0 n ≡ map stage_of (take n setup.slots)
  listed_are n h = listed_from n 0 (omega arith)

-- ---- two lists of effects, one after the other

pub stages_appended : (a b : Effects) → stages_of (appended a b) ≡ stages_of a ++ stages_of b
unfolding appended stages_of
stages_appended none b = refl
stages_appended (next effect spare a) b = rw (stages_appended a b, append_assoc)

pub held_appended : (a b : Effects) → held_of (appended a b) ≡ joined (held_of a) (held_of b)
unfolding appended held_of joined
held_appended none b = refl
held_appended (next effect spare a) b = ap (joined (held_in effect spare)) (held_appended a b) ∙ sym (joined_assoc (held_in effect spare) (held_of a) (held_of b))

pub full_parts : (rate : ℕ) (a b : Effects) → AllFull rate (appended a b) → AllFull rate a × AllFull rate b
unfolding appended AllFull
full_parts rate none b f = (tt, f)
full_parts rate (next effect spare a) b f = let r = full_parts rate a b f.1 in ((f.0, r.0), r.1)

pub full_appended : (rate : ℕ) (a b : Effects) → AllFull rate a → AllFull rate b → AllFull rate (appended a b)
unfolding appended AllFull
full_appended rate none b f g = g
full_appended rate (next effect spare a) b f g = (f.0, full_appended rate a b f.1 g)

appended_assoc : (a b c : Effects) → appended (appended a b) c ≡ appended a (appended b c)
unfolding appended
appended_assoc none b c = refl
appended_assoc (next effect spare a) b c = ap (next effect spare) (appended_assoc a b c)

many_more : (a : Effects) (effect : Effect) (spare : Spare) → how_many (appended a (next effect spare none)) ≡ suc (how_many a)
unfolding appended how_many
many_more none effect spare = refl
many_more (next other spare' a) effect spare = ap suc (many_more a effect spare)

-- ---- the top effects

module _ (setup : Setup) (effects : Effects) where
  -- the effects before top stage k, and the others
  record Before (k : ℕ) : Type 0 where
    before : Effects
    rest : Effects
    parts : effects ≡ appended before rest
    number : how_many before ≡ k
    place : top_at setup k ≡ length (stages_of before)

  -- the effect of top stage k, those before it and those after it
  pub record TopEffect (k : ℕ) : Type 0 where
    pub before : Effects
    pub effect : Effect
    pub spare : Spare
    pub after : Effects
    pub parts : effects ≡ appended before (next effect spare after)
    pub number : how_many before ≡ k
    pub place : top_at setup k ≡ length (stages_of before)
    pub end : top_at setup (suc k) ≡ length (stages_of before) + length (stages_in effect)
    pub stands : Stand setup (stages_in effect) (top_at setup k)

  module _ (h : Stand setup (stages_of effects) 0) (all : length (stages_of effects) ≡ used_of setup) where
    top_effect_of : (k : ℕ) → k < tops_of setup → Before k → TopEffect k
    unfolding stages_of
    top_effect_of k g b = go b.rest b.parts
      where
        go : (rest : Effects) → effects ≡ appended b.before rest → TopEffect k
        go none p =
            let size : length (stages_of effects) ≡ length (stages_of b.before) = ap (λ es. length (stages_of es)) p ∙ ap length (stages_appended b.before none ∙ append-nil (stages_of b.before)) in
            absurd (omega (arith, top_past setup k g, top_le setup (suc k), b.place))
        go (next effect spare after) p =
            let stages : stages_of effects ≡ stages_of b.before ++ (stages_in effect ++ stages_of after) = ap stages_of p ∙ stages_appended b.before (next effect spare after) in
            let size : length (stages_of effects) ≡ length (stages_of b.before) + (length (stages_in effect) + length (stages_of after)) =
            ap length stages ∙ length-append (stages_of b.before) (stages_in effect ++ stages_of after) ∙ ap (λ n. length (stages_of b.before) + n) (length-append (stages_in effect) (stages_of after)) in
            let there : Stand setup (stages_in effect ++ stages_of after) (top_at setup k) =
            subst (Stand setup (stages_in effect ++ stages_of after)) (omega (arith, b.place)) (stand_parts setup (stages_of b.before) (stages_in effect ++ stages_of after) 0 (rw stages at h)).1 in
            let own = (stand_parts setup (stages_in effect) (stages_of after) (top_at setup k) there).0 in
            record {
              before = b.before;
              effect = effect;
              spare = spare;
              after = after;
              parts = p;
              number = b.number;
              place = b.place;
              end = ap (top_at setup) (sym (add-one k)) ∙ sym (top_more setup k (top_at setup k) refl) ∙ next_is setup effect (top_at setup k) (used_of setup) own (omega (arith, b.place)) ∙ omega (arith, b.place);
              stands = own;
            }

    before_top : (k : ℕ) → k ≤ tops_of setup → Before k
    unfolding appended how_many stages_of
    before_top zero g = record { before = none; rest = effects; parts = refl; number = refl; place = top_zero setup }
    before_top (suc k) g =
        let t = top_effect_of k g (before_top k (omega arith)) in
        let one = next t.effect t.spare none in
        record {
          before = appended t.before one;
          rest = t.after;
          parts = t.parts ∙ sym (appended_assoc t.before one t.after);
          number = many_more t.before t.effect t.spare ∙ ap suc t.number;
          place = t.end ∙ sym (length-append (stages_of t.before) (stages_in t.effect)) ∙ ap length (ap (λ xs. stages_of t.before ++ xs) (sym (append-nil (stages_in t.effect))) ∙ sym (stages_appended t.before one));
        }

    pub top_effect : (k : ℕ) → k < tops_of setup → TopEffect k
    top_effect k g = top_effect_of k g (before_top k (omega arith))
