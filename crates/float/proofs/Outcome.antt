-- What it means that a promise admits one outcome. Each crate's OneOutcome.antt shows it of its public functions. Assumes nothing.
use Rattle.std.proofs.Common.{◌≡◌}

-- `Post` is the promise as Rattle reads it from the source: of the lifetimes, the arguments a, the result r and what the arguments hold at exit s.
-- Where all arguments are handed over by value, a caller sees the result and nothing else. All NaNs are one value, so "one outcome" is up to a NaN's bits.
abbrev pub Single : {L : Type 0} {A B C : L → Type 0} → ((κs : L) → A κs → B κs → C κs → Type 0) → Type 0
Single {L} {A} {B} {C} Post = (κs : L) (a : A κs) (r r' : B κs) (s s' : C κs) → Post κs a r s → Post κs a r' s' → r ≡ r'

-- Where something is lent by `&mut`, a caller also sees what it holds at the end: `left` reads that from what the arguments hold at exit.
abbrev pub SingleLent : {L D : Type 0} {A B C : L → Type 0} → ((κs : L) → A κs → B κs → C κs → Type 0) → ((κs : L) → C κs → D) → Type 0
SingleLent {L} {D} {A} {B} {C} Post left = (κs : L) (a : A κs) (r r' : B κs) (s s' : C κs) → Post κs a r s → Post κs a r' s' → (r ≡ r') × (left κs s ≡ left κs s')

-- Of a function for every width, f stands for the width: whatever a value or a pattern is there, what the specifications see of it tells it from any other (the laws `same_value` and `same_number` of `Floating`).
abbrev pub Known : {A N : Type 0} → (A → N) → Type 0
Known {A} seen = (a b : A) → seen a ≡ seen b → a ≡ b

-- so it is at f32 and at f64, where the specifications see the value or the pattern itself (`value` and `number` of their impls)
pub known_itself : {A : Type 0} → Known {A = A} {N = A} (λ (a : A). a)
known_itself a b h = h
