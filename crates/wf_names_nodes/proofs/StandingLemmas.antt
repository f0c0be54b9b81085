-- What is looked up in tables that tell a package and a scope is what its declarations say.
use Rattle.std.proofs.Common.{◌≡◌, ℕ, ◌+◌, Bool, true, false, cond, List, [], ◌∷◌, Option, Some, None, option_map, refl, ap, ◌∙◌, arith}
use Rattle.std.specs.List.{position_from}
use Rattle.wf_names_rules.specs.declared.tables.Tables.{Tables}
use Rattle.wf_names_rules.specs.declared.tables.Scope.{Scope as ScopeTables}
use Rattle.wf_names_rules.specs.Declarations.{Declared, is_spelt, place_in}
use Rattle.wf_names_rules.specs.Uses.{Scope}
use Rattle.wf_names_rules.specs.Meanings.{fields_known, known_at, callee_on}
use Rattle.wf_names_rules.specs.Tables.{known_by}
use Rattle.wf_names_scopes.specs.Agreeing.{TellsPackage, TellsScope}
use Rattle.wf_names_scopes.proofs.AgreeLemmas.{agree_by, agree_same}
use Rattle.wf_names_scopes.proofs.ConstantLemmas.{constant-place}
use Rattle.wf_names_scopes.proofs.MethodLemmas.{local-places, arg-places}
use Rattle.wf_names_resolve.specs.Standing.{field_numbered, standing_by, standing_at}

-- Numbers that begin later.
numbers_later : {X : Type 0} (p : X → Bool) (k i : ℕ) (xs : List X) → position_from p (k + i) xs ≡ option_map (λ n. k + n) (position_from p i xs)
numbers_later p k i [] = refl
numbers_later p k i (x ∷ xs) = by (p x) (numbers_later p k (i + 1) xs)
  where
    next : (k + i) + 1 ≡ k + (i + 1)
    next = omega arith

    by : (b : Bool) → position_from p (k + (i + 1)) xs ≡ option_map (λ n. k + n) (position_from p (i + 1) xs)
        → cond b (Some (k + i)) (position_from p ((k + i) + 1) xs) ≡ option_map (λ n. k + n) (cond b (Some i) (position_from p (i + 1) xs))
    by true r = refl
    by false r = ap (λ n. position_from p n xs) next ∙ r

pub standing_same : (d : Declared) (scope : Scope) (t : Tables) (s : ScopeTables) → TellsPackage d t → TellsScope d scope s → standing_by d.texts t s ≡ standing_at d scope
standing_same d scope t s p q = λ i. record {
  bytes = λ text. ap (λ k. k.bytes text) known i;
  status = λ text. (p.statuses.numbers text ∙ numbers_later (is_spelt text) 10 0 d.statuses) i;
  structure = λ text. p.structs.numbers text i;
  local = λ text. local-places d scope t p.variables s.method q.inside text i;
  constant = λ text. constant-place d scope.constants s.constants _ text q.constants (p.constants.places text) (p.constants.sorts text) i;
  field = λ text. (ap (λ this. field_numbered t this text) q.this ∙ field scope.this text) i;
  arg = λ text. arg-places d scope t p.variables s.method q.inside text i;
  callee = λ on text. ap (λ k. callee_on k on text) known i;
  args = λ m. ap (λ k. k.args m) known i;
}
  where
    known : known_by d.texts t s ≡ known_at d scope
    known = agree_same (known_by d.texts t s) (known_at d scope) (agree_by d scope t s p q)

    field : (this : Option ℕ) (text : ℕ) → field_numbered t this text ≡ place_in (fields_known d this) text
    field None text = refl
    field (Some owner) text = p.places owner text
