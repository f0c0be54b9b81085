-- No two declarations of one list that stand together have one name, and what is found by its name is the only one.
use Rattle.std.proofs.Common.{◌≡◌, ℕ, zero, suc, ◌<◌, Bool, true, false, List, [], ◌∷◌, ◌++◌, map, Option, Some, None, option_map, slice_get, nat_lt, refl, sym, ap, ◌∙◌, subst, arith, append_assoc}
use Rattle.std.specs.List.{AllByRecursion, flat_map}
use Rattle.std.proofs.lemmas.Bool.Decides.{nat_tests}
use Rattle.std.proofs.lemmas.Option.{slice_get-map}
use Rattle.wf_text.specs.Precedence.{Decides}
use Rattle.wf_ast.specs.declared.numbers.TextId.{TextId}
use Rattle.wf_ast.specs.declared.parsed.Name.{Name}
use Rattle.wf_names_rules.specs.Declarations.{Variable, Constant, Structure, Method, Declared, struct_named, structure_in, fields_in, as_variable}
use Rattle.wf_names_rules.specs.NameRules as rules
use Rattle.wf_names_rules.specs.NameRules.{Breaks, by_declaration, declared_twice, local_and_constant, later_of, AreApart, IsRepeated, twice, variable_names, IsUsed}
use Rattle.wf_names_rules.specs.Meanings.{fields_known}
use Rattle.wf_names_rules.specs.Uses.{Use, Scope, Site, sites, sites_in, type_uses, uses_of, constant_scope, struct_scope, method_scope, constant_sites, struct_sites, method_sites, variable_uses, method_uses}
use Rattle.wf_names_rules.specs.Uses as uses
use Rattle.wf_names_laws.proofs.ListLemmas.{FoundAt, all-at}
use Rattle.wf_names_scope_laws.specs.Scoping.{IsTheOne, IsCalled, IsVariableCalled}

-- ---- lists

-- No two items are so at once.
abbrev pub AreOnce : {X : Type 0} → (X → Type 0) → List X → Type 0
AreOnce {X} P xs = (i j : ℕ) (x y : X) → slice_get xs i ≡ Some x → slice_get xs j ≡ Some y → P x → P y → i ≡ j

-- What is found first by a test is the only one that passes it.
pub one-found : {X : Type 0} {k : ℕ} (p : X → Bool) (P : X → Type 0) → ((x : X) → p x ≡ true → P x) → (xs : List X) → AreOnce P xs → (r : FoundAt p k xs) → IsTheOne P xs r.i r.x
one-found p P sound xs once r = record { there = r.is; fits = sound r.x r.passes; only = λ i y e f. once i r.i y r.x e r.is f (sound r.x r.passes) }

-- Numbers that are neither below the other.
pub one-number : (i j : ℕ) → (i < j → ⊥) → (j < i → ⊥) → i ≡ j
one-number i j h g = by (nat_lt i j) refl (nat_lt j i) refl
  where
    by : (b : Bool) → nat_lt i j ≡ b → (c : Bool) → nat_lt j i ≡ c → i ≡ j
    by true e c k = absurd (h (grind (arith, nat_tests, e)))
    by false e true k = absurd (g (grind (arith, nat_tests, k)))
    by false e false k = grind (arith, nat_tests, e, k)

same-text : (a b : Name) → a.text.0 ≡ b.text.0 → a.text ≡ b.text
same-text a b e = let text : ℕ → TextId = λ n. record { 0 = n } in ap text e

pub name-once : {X : Type 0} (name_of : X → Name) (xs : List X) → ((later : Name) → IsRepeated (map name_of xs) later → ⊥) → (text : ℕ) → AreOnce (λ x. IsCalled text (name_of x)) xs
name-once name_of xs none text i j x y e f p q =
    one-number i j (λ below. none (name_of y) (repeated i j x y e f below (p ∙ sym q))) (λ below. none (name_of x) (repeated j i y x f e below (q ∙ sym p)))
  where
    repeated : (i j : ℕ) (x y : _) → slice_get xs i ≡ Some x → slice_get xs j ≡ Some y → i < j → (name_of x).text.0 ≡ (name_of y).text.0 → IsRepeated (map name_of xs) (name_of y)
    repeated i j x y e f below same = record {
      first = i;
      second = j;
      earlier = name_of x;
      order = below;
      at_first = slice_get-map name_of xs i ∙ ap (option_map name_of) e;
      at_second = slice_get-map name_of xs j ∙ ap (option_map name_of) f;
      same = same-text (name_of x) (name_of y) same;
    }

record Mapped {X Y : Type 0} (f : X → Y) (xs : List X) (i : ℕ) (y : Y) : Type 0 where
  from : X
  at : slice_get xs i ≡ Some from
  is : f from ≡ y

mapped-at : {X Y : Type 0} (f : X → Y) (xs : List X) (i : ℕ) (y : Y) → slice_get (map f xs) i ≡ Some y → Mapped f xs i y
mapped-at f [] i y e = absurd (cc e)
mapped-at f (x ∷ xs) zero y e = record { from = x; at = refl; is = cc e }
mapped-at f (x ∷ xs) (suc i) y e = let m = mapped-at f xs i y e in record { from = m.from; at = m.at; is = m.is }

once-mapped : {X Y : Type 0} (f : X → Y) (P : Y → Type 0) (xs : List X) → AreOnce (λ x. P (f x)) xs → AreOnce P (map f xs)
once-mapped f P xs once i j x y e g p q =
    let a = mapped-at f xs i x e in
    let b = mapped-at f xs j y g in
    once i j a.from b.from a.at b.at (subst P (sym a.is) p) (subst P (sym b.is) q)

get-front : {X : Type 0} (xs ys : List X) (i : ℕ) (x : X) → slice_get xs i ≡ Some x → slice_get (xs ++ ys) i ≡ Some x
get-front [] ys i x e = absurd (cc e)
get-front (z ∷ xs) ys zero x e = e
get-front (z ∷ xs) ys (suc i) x e = get-front xs ys i x e

once-front : {X : Type 0} (P : X → Type 0) (xs ys : List X) → AreOnce P (xs ++ ys) → AreOnce P xs
once-front P xs ys once i j x y e f = once i j x y (get-front xs ys i x e) (get-front xs ys j y f)

once-none : {X : Type 0} (P : X → Type 0) → AreOnce P []
once-none P i j x y e = absurd (cc e)

-- ---- scopes

-- In a scope no two variables of one kind have one name, and no local has that of a constant.
pub record IsApart (d : Declared) (scope : Scope) : Type 0 where
  pub constants : (text : ℕ) → AreOnce (IsVariableCalled text) scope.constants
  pub locals : (text : ℕ) → AreOnce (IsVariableCalled text) scope.locals
  pub args : (text : ℕ) → AreOnce (IsVariableCalled text) scope.args
  pub fields : (text : ℕ) → AreOnce (IsVariableCalled text) (fields_known d scope.this)
  pub others : (text : ℕ) (i j : ℕ) (v c : Variable) → slice_get scope.locals i ≡ Some v → slice_get scope.constants j ≡ Some c → IsVariableCalled text v → IsVariableCalled text c → ⊥

module _ (d : Declared) (h : Decides (Breaks d) None) where
  none-repeated : (names : List Name) → AreApart d names → (later : Name) → IsRepeated names later → ⊥
  none-repeated names apart later r = h (twice later) (by_declaration (twice later) (declared_twice names later apart r))

  variables-once : (vs : List Variable) → AreApart d (variable_names vs) → (text : ℕ) → AreOnce (IsVariableCalled text) vs
  variables-once vs apart text = name-once (λ v. v.name) vs (none-repeated (variable_names vs) apart) text

  pub statuses-once : (text : ℕ) → AreOnce (IsCalled text) d.statuses
  statuses-once text i j x y e f p q = name-once (λ (n : Name). n) d.statuses (λ later r. none-repeated d.statuses rules.statuses later (same-list later r)) text i j x y e f p q
    where
      map-same : (ns : List Name) → map (λ n. n) ns ≡ ns
      map-same [] = refl
      map-same (n ∷ ns) = ap (λ zs. n ∷ zs) (map-same ns)

      same-list : (later : Name) → IsRepeated (map (λ n. n) d.statuses) later → IsRepeated d.statuses later
      same-list later r = subst (λ zs. IsRepeated zs later) (map-same d.statuses) r

  pub structs-once : (text : ℕ) → AreOnce (λ (s : Structure). IsCalled text s.name) d.structs
  structs-once text = name-once (λ s. s.name) d.structs (none-repeated (map (λ s. s.name) d.structs) rules.structs) text

  constants-once : (text : ℕ) → AreOnce (IsVariableCalled text) (map as_variable d.constants)
  constants-once text =
      once-mapped as_variable (IsVariableCalled text) d.constants
      (name-once (λ c. c.name) d.constants (none-repeated (map (λ c. c.name) d.constants) rules.constants) text)

  fields-once : (this : Option ℕ) (text : ℕ) → AreOnce (IsVariableCalled text) (fields_known d this)
  fields-once None text = once-none (IsVariableCalled text)
  fields-once (Some owner) text = by (struct_named d owner)
    where
      there : (n : ℕ) (o : Option Structure) → slice_get d.structs n ≡ o → AreOnce (IsVariableCalled text) (fields_in o)
      there n None e = once-none (IsVariableCalled text)
      there n (Some s) e = variables-once s.fields (rules.fields s (n, e)) text

      by : (o : Option ℕ) → AreOnce (IsVariableCalled text) (fields_in (structure_in d o))
      by None = once-none (IsVariableCalled text)
      by (Some n) = there n (slice_get d.structs n) refl

  pub args-apart : (n : ℕ) (m : Method) → slice_get d.methods n ≡ Some m → (text : ℕ) → AreOnce (IsVariableCalled text) m.args
  args-apart n m is text = variables-once m.args (rules.args m (n, is)) text

  none-other : (xs : List Variable) (text : ℕ) (i j : ℕ) (v c : Variable) → slice_get [] i ≡ Some v → slice_get xs j ≡ Some c → IsVariableCalled text v → IsVariableCalled text c → ⊥
  none-other xs text i j v c e = absurd (cc e)

  pub constant-apart : (known behind : List Variable) → known ++ behind ≡ map as_variable d.constants → IsApart d (constant_scope known)
  constant-apart known behind whole = record {
    constants = λ text. once-front (IsVariableCalled text) known behind (subst (λ zs. AreOnce (IsVariableCalled text) zs) (sym whole) (constants-once text));
    locals = λ text. once-none (IsVariableCalled text);
    args = λ text. once-none (IsVariableCalled text);
    fields = λ text. once-none (IsVariableCalled text);
    others = none-other known;
  }

  pub struct-apart : (s : Structure) → IsApart d (struct_scope d s)
  struct-apart s = record {
    constants = constants-once;
    locals = λ text. once-none (IsVariableCalled text);
    args = λ text. once-none (IsVariableCalled text);
    fields = fields-once (Some s.name.text.0);
    others = none-other (map as_variable d.constants);
  }

  pub method-apart : (n : ℕ) (m : Method) → slice_get d.methods n ≡ Some m → IsApart d (method_scope d m)
  method-apart n m is = record {
    constants = constants-once;
    locals = variables-once m.locals (rules.locals m (n, is));
    args = args-apart n m is;
    fields = fields-once (Some m.owner.text.0);
    others = clash;
  }
    where
      clash : (text : ℕ) (i j : ℕ) (v c : Variable) → slice_get m.locals i ≡ Some v → slice_get (map as_variable d.constants) j ≡ Some c → IsVariableCalled text v → IsVariableCalled text c → ⊥
      clash text i j v c e f p q =
          let r = mapped-at as_variable d.constants j c f in
          let same : v.name.text.0 ≡ r.from.name.text.0 = p ∙ sym (ap (λ (x : Variable). x.name.text.0) r.is ∙ q) in
          h (later_of v.name r.from.name) (by_declaration (later_of v.name r.from.name) (local_and_constant m v i j r.from (n, is) e r.at (same-text v.name r.from.name same)))

  -- ---- every scope of the package

  abbrev IsApartSite : Site → Type 0
  IsApartSite site = IsApart d site.scope

  apart-in : (scope : Scope) → IsApart d scope → (us : List Use) → AllByRecursion IsApartSite (sites_in scope us)
  apart-in scope a [] = tt
  apart-in scope a (u ∷ us) = (a, apart-in scope a us)

  all-join : (xs ys : List Site) → AllByRecursion IsApartSite xs → AllByRecursion IsApartSite ys → AllByRecursion IsApartSite (xs ++ ys)
  all-join [] ys a b = b
  all-join (x ∷ xs) ys a b = (a.0, all-join xs ys a.1 b)

  all-flat : {Y : Type 0} (f : Y → List Site) (ys : List Y) → ((i : ℕ) (y : Y) → slice_get ys i ≡ Some y → AllByRecursion IsApartSite (f y)) → AllByRecursion IsApartSite (flat_map f ys)
  all-flat f [] all = tt
  all-flat f (y ∷ ys) all = all-join (f y) (flat_map f ys) (all 0 y refl) (all-flat f ys (λ i z e. all (suc i) z e))

  known-longer : (known : List Variable) (c : Constant) (cs : List Constant) → known ++ map as_variable (c ∷ cs) ≡ map as_variable d.constants
      → (known ++ as_variable c ∷ []) ++ map as_variable cs ≡ map as_variable d.constants
  known-longer known c cs e = append_assoc known (as_variable c ∷ []) (map as_variable cs) ∙ e

  constants-apart : (known : List Variable) (cs : List Constant) → known ++ map as_variable cs ≡ map as_variable d.constants → AllByRecursion IsApartSite (constant_sites known cs)
  constants-apart known [] whole = tt
  constants-apart known (c ∷ cs) whole =
      all-join (sites_in (constant_scope known) (type_uses c.of ++ uses_of c.value)) (constant_sites (known ++ as_variable c ∷ []) cs)
      (apart-in (constant_scope known) (constant-apart known (map as_variable (c ∷ cs)) whole) (type_uses c.of ++ uses_of c.value))
      (constants-apart (known ++ as_variable c ∷ []) cs (known-longer known c cs whole))

  sites-apart : AllByRecursion IsApartSite (sites d)
  sites-apart =
      all-join (constant_sites [] d.constants) (flat_map (struct_sites d) d.structs ++ flat_map (method_sites d) d.methods) (constants-apart [] d.constants refl)
      (all-join (flat_map (struct_sites d) d.structs) (flat_map (method_sites d) d.methods)
      (all-flat (struct_sites d) d.structs (λ i s e. apart-in (struct_scope d s) (struct-apart s) (variable_uses s.fields)))
      (all-flat (method_sites d) d.methods (λ i m e. apart-in (method_scope d m) (method-apart i m e) (uses.structure m.owner ∷ method_uses m))))

  -- Where a name is used, names are apart.
  pub used-apart : (scope : Scope) (usage : Use) → IsUsed d scope usage → IsApart d scope
  used-apart scope usage used = all-at IsApartSite (sites d) used.0 (record { scope = scope; usage = usage }) sites-apart used.1
