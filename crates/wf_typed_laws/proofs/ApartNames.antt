-- Which names of a package that is read and keeps the rules of names differ in its typed tree.
use Rattle.std.proofs.Common.{◌≡◌, ◌+◌, ◌<◌, ◌≤◌, ℕ, zero, suc, Bool, true, false, List, [], ◌∷◌, ◌++◌, map, Option, Some, None, slice_get, nat_eq, nat_lt, refl, sym, ap, ◌∙◌, subst, arith}
use Rattle.std.specs.Prelude.{cond, if◌then◌else◌}
use Rattle.std.specs.List.{AllByRecursion, flat_map, position_from}
use Rattle.std.proofs.lemmas.Bool.Decides.{nat_tests}
use Rattle.wf_text.specs.declared.rules.Refusal.{Refusal}
use Rattle.wf_text.specs.declared.rules.Rule.TheVariants.{N3}
use Rattle.wf_ast.specs.declared.numbers.TextId.{TextId}
use Rattle.wf_ast.specs.declared.parsed.Name.{Name}
use Rattle.wf_ast.specs.declared.parsed.WrittenMark.{WrittenMark}
use Rattle.wf_ast.specs.ParsedParts.{AreDistinct}
use Rattle.wf_ast.specs.ParsedTree as parsed
use Rattle.wf_ast.specs.ParsedTree.{DeclTree}
use Rattle.wf_ast.specs.TypedPackage.{StructTree, MethodTree}
use Rattle.wf_ast.specs.ReadPackage.{decls_of}
use Rattle.wf_named.specs.NamedTree.{NamedPackageTree}
use Rattle.wf_parse.proofs.OneReadings.{parsed_distinct}
use Rattle.wf_types_rules.specs.declared.settings.Role.{Role}
use Rattle.wf_types_rules.specs.declared.settings.Role.TheVariants as roles
use Rattle.wf_names_rules.specs.Declarations.{Declared, Structure, Method, Variable, declared, variables, locals_of, structs_of, methods_of, bytes_in, text_of, is_spelt, struct_named}
use Rattle.wf_names_rules.specs.NameRules.{Breaks, by_declaration, by_use, declared_twice, initialize, unknown_struct, twice, unknown, AreApart, names_owned, variable_names, IsUsed}
use Rattle.wf_names_rules.specs.NameRules as rules
use Rattle.wf_names_rules.specs.Reserved.{is_initialize}
use Rattle.wf_names_rules.specs.Uses as uses
use Rattle.wf_names_rules.specs.Uses.{Scope, Site, struct_scope, method_scope, method_sites, constant_sites, struct_sites}
use Rattle.wf_names_rules.proofs.OwnedLemmas.{owned_before, owned-at, before-same}
use Rattle.wf_names_resolve.specs.Standing.{standing_at}
use Rattle.wf_names_resolve.specs.Package.{resolved_variable, resolved_structs, resolved_methods, resolved_package, method_in}
use Rattle.wf_names_resolve.specs.Resolved.{number_or}
use Rattle.wf_typed_tree.specs.ElaboratedPackage.{typed_variable, typed_struct, typed_method, typed_methods, typed_package}
use Rattle.wf_typed_tree.specs.ElaboratedStmts.{count_block}
use Rattle.wf_typed_laws.specs.ApartNames.{names_of, HasApartNames, ReadNamesAreApart}
use Rattle.wf_typed_laws.proofs.ListLemmas.{all-from, all-mapped}
use Rattle.wf_typed_laws.proofs.ReadNames.{names-spelt}
use Rattle.wf_typed_laws.proofs.KeptNames.{VariablesHave, StructureHas, MethodHas}
use Rattle.wf_typed_laws.proofs.TypedNames.{NameIsSpelt, spelt-structs, spelt-methods}

-- ---- lists

all-at : {X : Type 0} (P : X → Type 0) (xs : List X) → AllByRecursion P xs → (i : ℕ) (x : X) → slice_get xs i ≡ Some x → P x
all-at P [] a i x e = absurd (cc e)
all-at P (y ∷ xs) a zero x e = let same : y ≡ x = cc e in subst P same a.0
all-at P (y ∷ xs) a (suc i) x e = all-at P xs a.1 i x e

abbrev There : {X : Type 0} → X → List X → Type 0
There x xs = (i : ℕ) × (slice_get xs i ≡ Some x)

there-later : {X : Type 0} (x y : X) (xs : List X) → There x xs → There x (y ∷ xs)
there-later x y xs h = (suc h.0, h.1)

there-front : {X : Type 0} (x : X) (xs ys : List X) → There x xs → There x (xs ++ ys)
there-front x [] ys h = absurd (cc h.1)
there-front x (y ∷ xs) ys h = by h.0 h.1 (there-front x xs ys)
  where
    by : (i : ℕ) → slice_get (y ∷ xs) i ≡ Some x → (There x xs → There x (xs ++ ys)) → There x (y ∷ (xs ++ ys))
    by zero e more = (0, e)
    by (suc i) e more = there-later x y (xs ++ ys) (more (i, e))

there-behind : {X : Type 0} (x : X) (xs ys : List X) → There x ys → There x (xs ++ ys)
there-behind x [] ys h = h
there-behind x (y ∷ xs) ys h = there-later x y (xs ++ ys) (there-behind x xs ys h)

there-flat : {X Y : Type 0} (f : Y → List X) (x : X) (ys : List Y) (i : ℕ) (y : Y) → slice_get ys i ≡ Some y → There x (f y) → There x (flat_map f ys)
there-flat f x [] i y e h = absurd (cc e)
there-flat {Y = Y} f x (z ∷ ys) zero y e h =
    let same : z ≡ y = cc e in
    there-front x (f z) (flat_map f ys) (subst (λ (w : Y). There x (f w)) (sym same) h)
there-flat f x (z ∷ ys) (suc i) y e h = there-behind x (f z) (flat_map f ys) (there-flat f x ys i y e h)

record Mapped {X Y : Type 0} (f : X → Y) (xs : List X) (i : ℕ) (y : Y) : Type 0 where
  from : X
  at : slice_get xs i ≡ Some from
  is : f from ≡ y

mapped-at : {X Y : Type 0} (f : X → Y) (xs : List X) (i : ℕ) (y : Y) → slice_get (map f xs) i ≡ Some y → Mapped f xs i y
mapped-at f [] i y e = absurd (cc e)
mapped-at f (x ∷ xs) zero y e = record { from = x; at = refl; is = cc e }
mapped-at f (x ∷ xs) (suc i) y e = let m = mapped-at f xs i y e in record { from = m.from; at = m.at; is = m.is }

one-number : (i j : ℕ) → (i < j → ⊥) → (j < i → ⊥) → i ≡ j
one-number i j h g = by (nat_lt i j) refl (nat_lt j i) refl
  where
    by : (b : Bool) → nat_lt i j ≡ b → (c : Bool) → nat_lt j i ≡ c → i ≡ j
    by true e c k = absurd (h (grind (arith, nat_tests, e)))
    by false e true k = absurd (g (grind (arith, nat_tests, k)))
    by false e false k = grind (arith, nat_tests, e, k)

-- ---- names that differ

module _ (d : Declared) (distinct : AreDistinct d.texts) (kept : (refusal : Refusal) → Breaks d refusal → ⊥) where
  abbrev bytes : Name → List ℕ
  bytes name = text_of d name.text.0

  one-text : (a b : Name) → NameIsSpelt d.texts a → NameIsSpelt d.texts b → bytes a ≡ bytes b → a.text ≡ b.text
  one-text a b s t e =
      let x : bytes a ≡ s.text = ap bytes_in s.there in
      let y : bytes b ≡ t.text = ap bytes_in t.there in
      let same : s.text ≡ t.text = sym x ∙ (e ∙ y) in
      let P : List ℕ → Type 0 = λ z. slice_get d.texts a.text.0 ≡ Some z in
      let made : ℕ → TextId = λ i. record { 0 = i } in
      ap made (distinct a.text.0 b.text.0 t.text (subst P same s.there) t.there)

  -- No two names of a list are spelt alike.
  once-named : (names : List Name) → AreApart d names → AllByRecursion (NameIsSpelt d.texts) names → (i j : ℕ) (a b : Name) → slice_get names i ≡ Some a → slice_get names j ≡ Some b → bytes a ≡ bytes b → i ≡ j
  once-named names apart spelt i j a b at_i at_j e =
      let same : a.text ≡ b.text = one-text a b (all-at (NameIsSpelt d.texts) names spelt i a at_i) (all-at (NameIsSpelt d.texts) names spelt j b at_j) e in
      one-number i j
      (λ l. kept (twice b) (by_declaration (twice b) (declared_twice names b apart (record { first = i; second = j; earlier = a; order = l; at_first = at_i; at_second = at_j; same = same }))))
      (λ l. kept (twice a) (by_declaration (twice a) (declared_twice names a apart (record { first = j; second = i; earlier = b; order = l; at_first = at_j; at_second = at_i; same = sym same }))))

  names-apart : (names : List Name) → AreApart d names → AllByRecursion (NameIsSpelt d.texts) names → AreDistinct (map bytes names)
  names-apart names apart spelt i j text e g =
      let a = mapped-at bytes names i text e in
      let b = mapped-at bytes names j text g in
      once-named names apart spelt i j a.from b.from a.at b.at (a.is ∙ sym b.is)

  spelt-variables : (vs : List Variable) → VariablesHave (NameIsSpelt d.texts) vs → AllByRecursion (NameIsSpelt d.texts) (variable_names vs)
  spelt-variables vs a = all-mapped (NameIsSpelt d.texts) (λ v. NameIsSpelt d.texts v.name) (λ v. v.name) (λ v h. h) vs a

  abbrev FieldsApart : Structure → Type 0
  FieldsApart s = AreDistinct (map bytes (variable_names s.fields))

  abbrev ArgsApart : Method → Type 0
  ArgsApart m = AreDistinct (map bytes (variable_names m.args))

  abbrev LocalsApart : Method → Type 0
  LocalsApart m = AreDistinct (map bytes (variable_names m.locals))

  abbrev IsNamed : Method → Type 0
  IsNamed m = is_initialize (bytes m.name) ≡ false

  module _ (spelt_structs : AllByRecursion (StructureHas (NameIsSpelt d.texts)) d.structs) (spelt_methods : AllByRecursion (MethodHas (NameIsSpelt d.texts)) d.methods) where
    structs-apart : AreDistinct (map bytes (map (λ s. s.name) d.structs))
    structs-apart = names-apart (map (λ s. s.name) d.structs) rules.structs (all-mapped (NameIsSpelt d.texts) (StructureHas (NameIsSpelt d.texts)) (λ s. s.name) (λ s h. h.0) d.structs spelt_structs)

    fields-apart : AllByRecursion FieldsApart d.structs
    fields-apart =
        all-from FieldsApart d.structs
        (λ i s e. names-apart (variable_names s.fields) (rules.fields s (i, e)) (spelt-variables s.fields (all-at (StructureHas (NameIsSpelt d.texts)) d.structs spelt_structs i s e).1))

    args-apart : AllByRecursion ArgsApart d.methods
    args-apart =
        all-from ArgsApart d.methods
        (λ i m e. names-apart (variable_names m.args) (rules.args m (i, e)) (spelt-variables m.args (all-at (MethodHas (NameIsSpelt d.texts)) d.methods spelt_methods i m e).1))

    locals-apart : AllByRecursion LocalsApart d.methods
    locals-apart =
        all-from LocalsApart d.methods
        (λ i m e. names-apart (variable_names m.locals) (rules.locals m (i, e)) (spelt-variables m.locals (all-at (MethodHas (NameIsSpelt d.texts)) d.methods spelt_methods i m e).2))

    none-initializes : AllByRecursion IsNamed d.methods
    none-initializes = all-from IsNamed d.methods (λ i m e. by i m e (is_initialize (bytes m.name)) refl)
      where
        by : (i : ℕ) (m : Method) → slice_get d.methods i ≡ Some m → (b : Bool) → is_initialize (bytes m.name) ≡ b → IsNamed m
        by i m e false g = g
        by i m e true g =
            let refusal : Refusal = record { rule = N3; at = m.name.at } in
            absurd (kept refusal (by_declaration refusal (initialize m (i, e) g)))

    -- The struct of a method is there.
    owner-used : (i : ℕ) (m : Method) → slice_get d.methods i ≡ Some m → IsUsed d (method_scope d m) (uses.structure m.owner)
    owner-used i m e =
        let site : Site = record { scope = method_scope d m; usage = uses.structure m.owner } in
        let own : There site (method_sites d m) = (0, refl) in
        there-behind site (constant_sites [] d.constants) (flat_map (struct_sites d) d.structs ++ flat_map (method_sites d) d.methods)
        (there-behind site (flat_map (struct_sites d) d.structs) (flat_map (method_sites d) d.methods) (there-flat (method_sites d) site d.methods i m e own))

    pub owner-known : (i : ℕ) (m : Method) → slice_get d.methods i ≡ Some m → struct_named d m.owner.text.0 ≡ None → ⊥
    owner-known i m e none =
        kept (unknown m.owner) (by_use (unknown m.owner) (unknown_struct (method_scope d m) m.owner (owner-used i m e) none))

    -- What stands at one place is spelt alike.
    position-least : (test : Structure → Bool) (k : ℕ) (ss : List Structure) (n : ℕ) → position_from test k ss ≡ Some n → k ≤ n
    position-least test k [] n e = absurd (cc e)
    position-least test k (s ∷ ss) n e = by (test s) e (position-least test (k + 1) ss n)
      where
        by : (b : Bool) → cond b (Some k) (position_from test (k + 1) ss) ≡ Some n → (position_from test (k + 1) ss ≡ Some n → k + 1 ≤ n) → k ≤ n
        by true e more = let same : k ≡ n = cc e in omega (arith, same)
        by false e more = omega (arith, more e)

    same-owner : (k : ℕ) (ss : List Structure) (a b n : ℕ) → position_from (λ s. is_spelt a s.name) k ss ≡ Some n → position_from (λ s. is_spelt b s.name) k ss ≡ Some n → a ≡ b
    same-owner k [] a b n e g = absurd (cc e)
    same-owner k (s ∷ ss) a b n e g = by (nat_eq s.name.text.0 a) refl (nat_eq s.name.text.0 b) refl e g (same-owner (k + 1) ss a b n)
      where
        by : (x : Bool) → nat_eq s.name.text.0 a ≡ x → (y : Bool) → nat_eq s.name.text.0 b ≡ y → cond x (Some k) (position_from (λ s. is_spelt a s.name) (k + 1) ss) ≡ Some n
            → cond y (Some k) (position_from (λ s. is_spelt b s.name) (k + 1) ss) ≡ Some n
            → (position_from (λ s. is_spelt a s.name) (k + 1) ss ≡ Some n → position_from (λ s. is_spelt b s.name) (k + 1) ss ≡ Some n → a ≡ b) → a ≡ b
        by true p true q e g more = grind (arith, nat_tests, p, q)
        by true p false q e g more =
            let same : k ≡ n = cc e in
            absurd (omega (arith, same, position-least (λ s. is_spelt b s.name) (k + 1) ss n g))
        by false p true q e g more =
            let same : k ≡ n = cc g in
            absurd (omega (arith, same, position-least (λ s. is_spelt a s.name) (k + 1) ss n e))
        by false p false q e g more = more e g

    one-owner : (i j : ℕ) (m n : Method) → slice_get d.methods i ≡ Some m → slice_get d.methods j ≡ Some n → number_or (struct_named d m.owner.text.0) ≡ number_or (struct_named d n.owner.text.0) → m.owner.text.0 ≡ n.owner.text.0
    one-owner i j m n e g same = by (struct_named d m.owner.text.0) refl (struct_named d n.owner.text.0) refl same
      where
        by : (x : Option ℕ) → struct_named d m.owner.text.0 ≡ x → (y : Option ℕ) → struct_named d n.owner.text.0 ≡ y → number_or x ≡ number_or y → m.owner.text.0 ≡ n.owner.text.0
        by None p y q k = absurd (owner-known i m e p)
        by (Some a) p None q k = absurd (owner-known j n g q)
        by (Some a) p (Some b) q k =
            let there : struct_named d n.owner.text.0 ≡ Some a = q ∙ ap Some (sym k) in
            same-owner 0 d.structs m.owner.text.0 n.owner.text.0 a p there

    spelt-owned : (owner : ℕ) (ms : List Method) → AllByRecursion (MethodHas (NameIsSpelt d.texts)) ms → AllByRecursion (NameIsSpelt d.texts) (names_owned owner ms)
    spelt-owned owner [] a = tt
    spelt-owned owner (m ∷ ms) a = by (is_spelt owner m.owner) (spelt-owned owner ms a.1)
      where
        by : (b : Bool) → AllByRecursion (NameIsSpelt d.texts) (names_owned owner ms) → AllByRecursion (NameIsSpelt d.texts) (if b then m.name ∷ names_owned owner ms else names_owned owner ms)
        by true k = (a.0.0, k)
        by false k = k

    methods-apart : (i j : ℕ) (m n : Method) → slice_get d.methods i ≡ Some m → slice_get d.methods j ≡ Some n → number_or (struct_named d m.owner.text.0) ≡ number_or (struct_named d n.owner.text.0)
        → bytes m.name ≡ bytes n.name → i ≡ j
    methods-apart i j m n e g of same =
        let owner = m.owner.text.0 in
        let owners : owner ≡ n.owner.text.0 = one-owner i j m n e g of in
        let own : is_spelt owner m.owner ≡ true = grind (arith, nat_tests) in
        let other : is_spelt owner n.owner ≡ true = grind (arith, nat_tests, owners) in
        before-same owner d.methods i j m n e g own other
        (once-named (names_owned owner d.methods) (rules.methods owner) (spelt-owned owner d.methods spelt_methods) (owned_before owner d.methods i) (owned_before owner d.methods j) m.name n.name
        (owned-at owner d.methods i m e own) (owned-at owner d.methods j n g other) same)

    -- ---- the same in the typed tree

    module _ (p : NamedPackageTree) where
      variables-named : (role : Role) (scope : Scope) (vs : List Variable) → names_of (map (typed_variable p role) (map (resolved_variable (standing_at d scope)) vs)) ≡ map bytes (variable_names vs)
      variables-named role scope [] = refl
      variables-named role scope (v ∷ vs) = ap (λ zs. bytes v.name ∷ zs) (variables-named role scope vs)

      structs-named : (decls : List DeclTree) → map (λ (s : StructTree). s.name) (map (typed_struct p) (resolved_structs d decls)) ≡ map bytes (map (λ s. s.name) (structs_of decls))
      structs-named [] = refl
      structs-named (parsed.status public text at ∷ decls) = structs-named decls
      structs-named (parsed.constant public name of value at ∷ decls) = structs-named decls
      structs-named (parsed.structure public name mark fs at ∷ decls) = ap (λ zs. bytes name ∷ zs) (structs-named decls)
      structs-named (parsed.method public owner name mark as_ result body at ∷ decls) = structs-named decls

      fields-kept : (decls : List DeclTree) → AllByRecursion FieldsApart (structs_of decls) → AllByRecursion (λ s. AreDistinct (names_of s.fields)) (map (typed_struct p) (resolved_structs d decls))
      fields-kept [] a = tt
      fields-kept (parsed.status public text at ∷ decls) a = fields-kept decls a
      fields-kept (parsed.constant public name of value at ∷ decls) a = fields-kept decls a
      fields-kept (parsed.structure public name mark fs at ∷ decls) a =
          let s : Structure = record { name = name; fields = variables fs } in
          (subst AreDistinct (sym (variables-named roles.Field (struct_scope d s) (variables fs))) a.0, fields-kept decls a.1)
      fields-kept (parsed.method public owner name mark as_ result body at ∷ decls) a = fields-kept decls a

      -- What holds of the names of methods holds of their typed trees.
      pub methods-kept : (P : Method → Type 0) (Q : MethodTree → Type 0)
          → ((mark : WrittenMark) (m : Method) (n : ℕ) → P m → Q (typed_method p n (method_in d mark m)))
          → (n : ℕ) (decls : List DeclTree) → AllByRecursion P (methods_of decls) → AllByRecursion Q (typed_methods p n (resolved_methods d decls))
      methods-kept P Q h n [] a = tt
      methods-kept P Q h n (parsed.status public text at ∷ decls) a = methods-kept P Q h n decls a
      methods-kept P Q h n (parsed.constant public name of value at ∷ decls) a = methods-kept P Q h n decls a
      methods-kept P Q h n (parsed.structure public name mark fs at ∷ decls) a = methods-kept P Q h n decls a
      methods-kept P Q h n (parsed.method public owner name mark as_ result body at ∷ decls) a =
          let m : Method = record { public = public; owner = owner; name = name; args = variables as_; result = result; locals = locals_of body; body = body } in
          (h mark m n a.0, methods-kept P Q h (n + count_block (method_in d mark m).body) decls a.1)

      -- A typed method by its declaration.
      record MethodFrom (ms : List Method) (i : ℕ) (t : MethodTree) : Type 0 where
        from : Method
        at : slice_get ms i ≡ Some from
        named : t.name ≡ bytes from.name
        of : t.of ≡ number_or (struct_named d from.owner.text.0)

      method-from : (n : ℕ) (decls : List DeclTree) (i : ℕ) (t : MethodTree) → slice_get (typed_methods p n (resolved_methods d decls)) i ≡ Some t → MethodFrom (methods_of decls) i t
      method-from n [] i t e = absurd (cc e)
      method-from n (parsed.status public text at ∷ decls) i t e = method-from n decls i t e
      method-from n (parsed.constant public name of value at ∷ decls) i t e = method-from n decls i t e
      method-from n (parsed.structure public name mark fs at ∷ decls) i t e = method-from n decls i t e
      method-from n (parsed.method public owner name mark as_ result body at ∷ decls) zero t e =
          let m : Method = record { public = public; owner = owner; name = name; args = variables as_; result = result; locals = locals_of body; body = body } in
          let same : typed_method p n (method_in d mark m) ≡ t = cc e in
          record { from = m; at = refl; named = ap (λ (t : MethodTree). t.name) (sym same); of = ap (λ (t : MethodTree). t.of) (sym same) }
      method-from n (parsed.method public owner name mark as_ result body at ∷ decls) (suc i) t e =
          let m : Method = record { public = public; owner = owner; name = name; args = variables as_; result = result; locals = locals_of body; body = body } in
          let it = method-from (n + count_block (method_in d mark m).body) decls i t e in
          record { from = it.from; at = it.at; named = it.named; of = it.of }

apart-names : (name : List ℕ) (texts : List (List ℕ)) (decls : List DeclTree) (order struct_order : List ℕ) → AreDistinct texts → ((refusal : Refusal) → Breaks (declared texts decls) refusal → ⊥)
    → AllByRecursion (StructureHas (NameIsSpelt texts)) (structs_of decls) → AllByRecursion (MethodHas (NameIsSpelt texts)) (methods_of decls) → HasApartNames (typed_package (resolved_package name texts decls order struct_order))
unfolding typed_package
apart-names name texts decls order struct_order distinct kept ss ms =
    let d = declared texts decls in
    let p = resolved_package name texts decls order struct_order in
    record {
      structs = subst AreDistinct (sym (structs-named d distinct kept ss ms p decls)) (structs-apart d distinct kept ss ms);
      fields = fields-kept d distinct kept ss ms p decls (fields-apart d distinct kept ss ms);
      args = methods-kept d distinct kept ss ms p (ArgsApart d distinct kept) (λ m. AreDistinct (names_of m.args)) (λ mark m n h. subst AreDistinct (sym (variables-named d distinct kept ss ms p roles.Arg (method_scope d m) m.args)) h) 0 decls (args-apart d distinct kept ss ms);
      locals = methods-kept d distinct kept ss ms p (LocalsApart d distinct kept) (λ m. AreDistinct (names_of m.locals)) (λ mark m n h. subst AreDistinct (sym (variables-named d distinct kept ss ms p roles.Local (method_scope d m) m.locals)) h) 0 decls (locals-apart d distinct kept ss ms);
      methods = λ i j m n e g of named.
          let a = method-from d distinct kept ss ms p 0 decls i m e in
          let b = method-from d distinct kept ss ms p 0 decls j n g in
          methods-apart d distinct kept ss ms i j a.from b.from a.at b.at (sym a.of ∙ (of ∙ b.of)) (sym a.named ∙ (named ∙ b.named));
      initialize = methods-kept d distinct kept ss ms p (IsNamed d distinct kept) (λ m. is_initialize m.name ≡ false) (λ mark m n h. h) 0 decls (none-initializes d distinct kept ss ms);
    }

pub read_names_are_apart : ReadNamesAreApart
read_names_are_apart name files read is kept order struct_order =
    let spelt = names-spelt name files read is in
    apart-names read.name read.texts (decls_of read) order struct_order (parsed_distinct name files read is) kept (spelt-structs read.texts (decls_of read) spelt) (spelt-methods read.texts (decls_of read) spelt)
