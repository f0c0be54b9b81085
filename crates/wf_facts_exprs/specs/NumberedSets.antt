-- Sets of facts by number.
use Rattle.std.specs.Prelude.{◌≡◌, ℕ, zero, suc, ◌<◌, ◌≤◌, Bool, ◌&&◌, ◌||◌, List, [], ◌∷◌, nat_eq, replicate}
use Rattle.wf_facts_exprs.specs.declared.sets.FactSet.{FactSet}
use Rattle.wf_facts_exprs.specs.Sets.{member}

-- The words of the set of a number; beyond the sets they are those of the empty one.
abbrev pub words_at : List FactSet → ℕ → List ℕ
words_at [] k = replicate 8 0
words_at (s ∷ ss) zero = s.words
words_at (s ∷ ss) (suc k) = words_at ss k

-- Place n comes into the sets, by number, of what is met, and the sets are else as they were.
abbrev pub Marks : (n : ℕ) → (met : ℕ → Bool) → (before after : List FactSet) → Type 0
Marks n met before after = (k : ℕ) → k < 260 → (j : ℕ) → j < 512 → member (words_at after k) j ≡ ((nat_eq j n && met k) || member (words_at before k) j)

-- There is room for the set of each thing, and the empty set stands for those that aren't in use.
pub record HasSets (len capacity : ℕ) (none : List ℕ) : Type 0 where
  pub few : len ≤ 260
  pub room : 260 ≤ capacity
  pub empty : none ≡ replicate 8 0
