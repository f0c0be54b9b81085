-- Knowledges that agree are the same.
use Rattle.std.proofs.Common.{◌≡◌, ℕ, zero, suc, List, [], ◌∷◌, map, slice_get, Bool, Option, None, Some, is_some, nat_eq, refl, sym, ap, ◌∙◌}
use Rattle.std.specs.List.{position_from}
use Rattle.indexmap.specs.IndexMap.{get}
use Rattle.wf_names_rules.specs.declared.tables.MethodVariables.{MethodVariables}
use Rattle.wf_names_rules.specs.declared.tables.Tables.{Tables}
use Rattle.wf_names_rules.specs.declared.tables.Scope.{Scope as ScopeTables}
use Rattle.wf_names_rules.specs.Declarations.{Method, Declared, is_spelt}
use Rattle.wf_names_rules.specs.Uses.{Scope}
use Rattle.wf_names_rules.specs.Meanings.{Known, known_at, sort_in, fields_known, method_known, public_in, args_in}
use Rattle.wf_names_rules.specs.Tables.{known_by, number_at, field_at, own_method_at, flag_in, arg_names_in}
use Rattle.wf_names_scopes.specs.Agreeing.{Agree, TellMethods, TellsPackage, TellsScope}
use Rattle.wf_names_scopes.proofs.ConstantLemmas.{constant-sort}
use Rattle.wf_names_scopes.proofs.FirstLemmas.{position_any}
use Rattle.wf_names_scopes.proofs.MethodLemmas.{local-sorts, arg-sorts}

-- What each method has, by its number.
public_at_place : (ms : List Method) (m : ℕ) → flag_in (slice_get (map (λ m. m.public) ms) m) ≡ public_in (slice_get ms m)
public_at_place [] m = refl
public_at_place (x ∷ xs) zero = refl
public_at_place (x ∷ xs) (suc m) = public_at_place xs m

names_at_place : (texts : List (List ℕ)) (ms : List Method) (ts : List MethodVariables) (m : ℕ) → TellMethods texts ms ts → arg_names_in (slice_get ts m) ≡ args_in (slice_get ms m)
names_at_place texts [] [] m h = refl
names_at_place texts (x ∷ xs) (t ∷ ts) zero h = h.0.args.names
names_at_place texts (x ∷ xs) (t ∷ ts) (suc m) h = names_at_place texts xs ts m h.1
names_at_place texts [] (t ∷ ts) m h = absurd h
names_at_place texts (x ∷ xs) [] m h = absurd h

-- A name has a number wherever the first is counted from.
numbered : {X : Type 0} (p : X → Bool) (first : ℕ) (xs : List X) (o : Option ℕ) → o ≡ position_from p first xs → is_some o ≡ is_some (position_from p 0 xs)
numbered p first xs o e = ap is_some e ∙ position_any p first xs ∙ sym (position_any p 0 xs)

-- What tables tell that tell the package and the scope.
pub agree_by : (d : Declared) (scope : Scope) (t : Tables) (s : ScopeTables) → TellsPackage d t → TellsScope d scope s → Agree (known_by d.texts t s) (known_at d scope)
agree_by d scope t s p q = record {
  bytes = λ text. refl;
  is_status = λ text. numbered (is_spelt text) 10 d.statuses (number_at t.statuses text) (p.statuses.numbers text);
  is_struct = λ text. ap is_some (p.structs.numbers text);
  local = local-sorts d scope t p.variables s.method q.inside;
  constant = λ text. constant-sort d scope.constants s.constants (get nat_eq t.constants.entries text) text q.constants (p.constants.places text) (p.constants.sorts text);
  field = λ text. ap (λ this. field_at t this text) q.this ∙ field scope.this text;
  arg = arg-sorts d scope t p.variables s.method q.inside;
  own_method = λ text. ap (λ this. own_method_at t this text) q.this ∙ own scope.this text;
  struct_method = p.methods;
  is_method = p.method_names;
  is_public = λ m. ap (λ flags. flag_in (slice_get flags m)) p.publics ∙ public_at_place d.methods m;
  args = λ m. names_at_place d.texts d.methods t.variables.items m p.variables;
}
  where
    field : (this : Option ℕ) (text : ℕ) → field_at t this text ≡ sort_in d (fields_known d this) text
    field None text = refl
    field (Some owner) text = p.fields owner text

    own : (this : Option ℕ) (text : ℕ) → own_method_at t this text ≡ method_known d this text
    own None text = refl
    own (Some owner) text = p.methods owner text

-- Knowledges that agree are the same, so all that is said of them is.
pub agree_same : (a b : Known) → Agree a b → a ≡ b
agree_same a b h = λ i. record {
  bytes = λ text. h.bytes text i;
  is_status = λ text. h.is_status text i;
  is_struct = λ text. h.is_struct text i;
  local = λ text. h.local text i;
  constant = λ text. h.constant text i;
  field = λ text. h.field text i;
  arg = λ text. h.arg text i;
  own_method = λ text. h.own_method text i;
  struct_method = λ owner text. h.struct_method owner text i;
  is_method = λ text. h.is_method text i;
  is_public = λ m. h.is_public m i;
  args = λ m. h.args m i;
}
