-- The scopes of a resolved package know what those of the package know.
use Rattle.std.proofs.Common.{◌≡◌, ℕ, zero, suc, ◌<◌, if◌then◌else◌, List, [], ◌∷◌, ◌++◌, map, length, Option, Some, None, option_map, slice_get, nat_lt, refl, sym, ap, ◌∙◌, arith}
use Rattle.std.proofs.lemmas.Option.{slice_get-map, slice_get_within}
use Rattle.std.proofs.lemmas.List.{length-map}
use Rattle.wf_text.specs.Precedence.{Decides}
use Rattle.wf_ast.specs.declared.parsed.WrittenMark.{WrittenMark}
use Rattle.wf_ast.specs.ParsedTree.{DeclTree}
use Rattle.wf_named.specs.NamedTree.{NamedTypeTree, VarTree, ConstTree, NamedStructTree, NamedPackageTree}
use Rattle.wf_named.specs.WellNamed.{fields_in, scope_of_const, scope_of_struct, scope_of_method}
use Rattle.wf_names_rules.specs.Declarations.{Variable, Constant, Structure, Method, Declared, declared, as_variable, struct_named, text_of, structure_in}
use Rattle.wf_names_rules.specs.Declarations as declarations
use Rattle.wf_names_rules.specs.Uses.{Scope, constant_scope, struct_scope, method_scope}
use Rattle.wf_names_rules.specs.Meanings.{fields_known}
use Rattle.wf_names_rules.specs.NameRules.{Breaks}
use Rattle.wf_names_resolve.specs.Standing.{standing_at}
use Rattle.wf_names_resolve.specs.Resolved.{number_or, word_of, resolved_type}
use Rattle.wf_names_resolve.specs.Package.{resolved_variable, struct_in, method_in, resolved_by}
use Rattle.wf_names_laws.specs.ResolvedScopes.{HasTypesOf, HasMethod, IsScopeOf}
use Rattle.wf_names_laws.proofs.ListLemmas.{chosen}
use Rattle.wf_names_laws.proofs.ExprLaws.{below-so}
use Rattle.wf_names_laws.proofs.ApartLemmas.{struct-first, args-once}
use Rattle.wf_names_laws.proofs.PackageLemmas.{struct-resolved, structs-long, method-resolved, const-resolved, consts-long}

-- A constant of the package with a number below this.
record KnownConstant (d : Declared) (below i : ℕ) (v : Variable) : Type 0 where
  c : Constant
  front : i < below
  is : slice_get d.constants i ≡ Some c
  same : as_variable c ≡ v

constant-of : (all : List Constant) (i : ℕ) (v : Variable) → slice_get (map as_variable all) i ≡ Some v → (c : Constant) × ((slice_get all i ≡ Some c) × (as_variable c ≡ v))
constant-of [] i v e = absurd (cc e)
constant-of (c ∷ cs) zero v e = (c, (refl, (let same : as_variable c ≡ v = cc e in same)))
constant-of (c ∷ cs) (suc i) v e = constant-of cs i v e

-- An item at the front is one of the whole list.
get-front : {X : Type 0} (xs ys : List X) (i : ℕ) (x : X) → slice_get xs i ≡ Some x → (i < length xs) × (slice_get (xs ++ ys) i ≡ Some x)
get-front [] ys i x e = absurd (cc e)
get-front (y ∷ xs) ys zero x e = (omega arith, e)
get-front (y ∷ xs) ys (suc i) x e = let r = get-front xs ys i x e in (omega (arith, r.0), r.1)

fields-there : (p : NamedPackageTree) (n : ℕ) (it : NamedStructTree) → slice_get p.structs n ≡ Some it → fields_in p (Some n) ≡ it.fields
fields-there p n it e = rw e refl

variables-typed : (d : Declared) (there : Scope) (vs : List Variable) → HasTypesOf d vs (λ n. option_map (λ (x : VarTree). x.of) (slice_get (map (resolved_variable (standing_at d there)) vs) n))
variables-typed d there vs n v e =
    (there, ap (option_map (λ (x : VarTree). x.of)) (slice_get-map (resolved_variable (standing_at d there)) vs n ∙ ap (option_map (resolved_variable (standing_at d there))) e))

module _ (name : List ℕ) (texts : List (List ℕ)) (decls : List DeclTree) (order struct_order : List ℕ) (h : Decides (Breaks (declared texts decls)) None) where
  -- The package, and the resolved one.
  abbrev given : Declared
  given = declared texts decls

  abbrev made : NamedPackageTree
  made = resolved_by given name decls order struct_order

  constants-typed : (below : ℕ) (known : List Variable) → ((i : ℕ) (v : Variable) → slice_get known i ≡ Some v → KnownConstant given below i v)
      → HasTypesOf given known (λ n. if nat_lt n below then option_map (λ (x : ConstTree). x.of) (slice_get made.consts n) else None)
  constants-typed below known all i v e =
      let k = all i v e in
      let r = const-resolved given [] given.constants i k.c k.is in (
        constant_scope r.0,
        chosen (nat_lt i below) (option_map (λ (x : ConstTree). x.of) (slice_get made.consts i)) None (below-so i below k.front)
            ∙ ap (option_map (λ (x : ConstTree). x.of)) r.1
            ∙ ap (λ (x : Variable). Some (resolved_type (standing_at given (constant_scope r.0)) x.of)) k.same,
      )

  all-constants : (i : ℕ) (v : Variable) → slice_get (map as_variable given.constants) i ≡ Some v → KnownConstant given (length made.consts) i v
  all-constants i v e =
      let r = constant-of given.constants i v e in
      record { c = r.0; front = (let b = slice_get_within given.constants i r.0 r.1.0 in omega (arith, b, consts-long given [] given.constants)); is = r.1.0; same = r.1.1 }

  statuses-same : length made.statuses ≡ length given.statuses
  statuses-same = length-map given.statuses (word_of (text_of given))

  method-there : (n : ℕ) (m : Method) → slice_get given.methods n ≡ Some m → HasMethod given m (slice_get made.methods n)
  method-there n m e =
      let r = method-resolved given decls n m e in
      record {
        resolved = method_in given r.0 m;
        is = r.1;
        of = record { public = refl; of = refl; args = length-map m.args (resolved_variable (standing_at given (method_scope given m))) ∙ sym (args-once given h n m e) };
      }

  -- The fields of the struct that a name means.
  fields-typed : (this n : ℕ) → n ≡ number_or (struct_named given this) → HasTypesOf given (fields_known given (Some this)) (λ i. option_map (λ (x : VarTree). x.of) (slice_get (fields_in made (Some n)) i))
  fields-typed this n same = by_number (struct_named given this) same
    where
      by_struct : (m : ℕ) (o : Option Structure) → slice_get given.structs m ≡ o → n ≡ m
          → HasTypesOf given (declarations.fields_in o) (λ i. option_map (λ (x : VarTree). x.of) (slice_get (fields_in made (Some n)) i))
      by_struct m None is e = λ i v f. absurd (cc f)
      by_struct m (Some it) is e = λ i v f.
          let r = struct-resolved given decls m it is in
          let t = variables-typed given (struct_scope given it) it.fields i v f in (
            t.0,
            ap (λ x. option_map (λ (y : VarTree). y.of) (slice_get (fields_in made (Some x)) i)) e
                ∙ ap (λ xs. option_map (λ (y : VarTree). y.of) (slice_get xs i)) (fields-there made m (struct_in given r.0 it) r.1) ∙ t.1,
          )

      by_number : (o : Option ℕ) → n ≡ number_or o → HasTypesOf given (declarations.fields_in (structure_in given o)) (λ i. option_map (λ (x : VarTree). x.of) (slice_get (fields_in made (Some n)) i))
      by_number None e = λ i v f. absurd (cc f)
      by_number (Some m) e = by_struct m (slice_get given.structs m) refl e

  none-typed : (type_of : ℕ → Option NamedTypeTree) → HasTypesOf given [] type_of
  none-typed type_of n v e = absurd (cc e)

  structs-same : length made.structs ≡ length given.structs
  structs-same = structs-long given decls

  constants-in-front : (known : List Variable) (others : List Constant) → known ++ map as_variable others ≡ map as_variable given.constants
      → (i : ℕ) (v : Variable) → slice_get known i ≡ Some v → KnownConstant given (length known) i v
  constants-in-front known others whole i v e =
      let f = get-front known (map as_variable others) i v e in
      let r = constant-of given.constants i v (ap (λ vs. slice_get vs i) (sym whole) ∙ f.1) in
      record { c = r.0; front = f.0; is = r.1.0; same = r.1.1 }

  pub const-known : (known : List Variable) (others : List Constant) → known ++ map as_variable others ≡ map as_variable given.constants
      → IsScopeOf given (constant_scope known) (scope_of_const made (length known))
  const-known known others whole = record {
    constants = constants-typed (length known) known (constants-in-front known others whole);
    locals = none-typed _;
    fields = none-typed _;
    args = none-typed _;
    statuses = statuses-same;
    structs = structs-same;
    owner = λ text e. absurd (cc e);
    methods = method-there;
  }

  pub struct-known : (n : ℕ) (it : Structure) → slice_get given.structs n ≡ Some it → IsScopeOf given (struct_scope given it) (scope_of_struct made n)
  struct-known n it e =
      let first : n ≡ number_or (struct_named given it.name.text.0) = ap number_or (sym (struct-first given h n it e)) in
      record {
        constants = constants-typed (length made.consts) (map as_variable given.constants) all-constants;
        locals = none-typed _;
        fields = fields-typed it.name.text.0 n first;
        args = none-typed _;
        statuses = statuses-same;
        structs = structs-same;
        owner = λ text own. let same : it.name.text.0 ≡ text = cc own in ap (λ x. Some x) first ∙ ap (λ x. Some (number_or (struct_named given x))) same;
        methods = method-there;
      }

  pub method-known : (mark : WrittenMark) (m : Method) → IsScopeOf given (method_scope given m) (scope_of_method made (method_in given mark m))
  method-known mark m = record {
    constants = constants-typed (length made.consts) (map as_variable given.constants) all-constants;
    locals = variables-typed given (method_scope given m) m.locals;
    fields = fields-typed m.owner.text.0 (number_or (struct_named given m.owner.text.0)) refl;
    args = variables-typed given (method_scope given m) m.args;
    statuses = statuses-same;
    structs = structs-same;
    owner = λ text own. let same : m.owner.text.0 ≡ text = cc own in ap (λ x. Some (number_or (struct_named given x))) same;
    methods = method-there;
  }
