-- In a call that fits no reader or writer of the calling method is handed on twice.
use Rattle.std.proofs.Common.{◌≡◌, ℕ, zero, suc, ◌<◌, Bool, true, false, if◌then◌else◌, not, ◌||◌, List, [], ◌∷◌, ◌++◌, map, Option, Some, None, option_map, option_and_then, slice_get, nat_eq, nat_lt, is_some, refl, sym, ap, ◌∙◌, subst, inl, inr, arith}
use Rattle.std.specs.List.{AllByRecursion, IsDistinct, find, list_any}
use Rattle.std.specs.Str.{bytes_eq}
use Rattle.std.proofs.lemmas.Bool.Decides.{nat_tests}
use Rattle.std.proofs.lemmas.Map.Keys.{IsDistinct-push}
use Rattle.std.proofs.lemmas.Slice.Eq.{bytes_eq-Decides}
use Rattle.indexmap.specs.IndexSet.{insert_key, insert_all}
use Rattle.wf_base.specs.declared.base_methods.BaseSig.{BaseSig}
use Rattle.wf_base.specs.declared.base_methods.BaseSig.TheVariants as sigs
use Rattle.wf_base.specs.BaseTable.{row_of}
use Rattle.wf_ast.specs.declared.parsed.Name.{Name}
use Rattle.wf_ast.specs.declared.parsed.Path.{Path}
use Rattle.wf_ast.specs.declared.parsed.Receiver.{Receiver}
use Rattle.wf_ast.specs.declared.parsed.Root.{Root}
use Rattle.wf_ast.specs.declared.parsed.Root.TheVariants as roots
use Rattle.wf_ast.specs.declared.parsed.WrittenMark.{WrittenMark}
use Rattle.wf_ast.specs.ParsedTree as tree
use Rattle.wf_ast.specs.ParsedTree.{ExprTree, GivenTrees}
use Rattle.wf_named.specs.declared.nodes.Variable.TheVariants as variables
use Rattle.wf_named.specs.NamedTree.{NamedTypeTree, NamedArgTrees, no_arg}
use Rattle.wf_named.specs.WellNamed.{NamedScope as NamedScope, type_of_variable, kind_of, is_io, io_named, io_handed, is_that, hands_on, never_again, named_expr, named_args}
use Rattle.wf_names_rules.specs.Declarations.{Variable, Method, Declared, is_spelt, text_of, place_in}
use Rattle.wf_names_rules.specs.Uses.{Scope, uses_of, given_uses}
use Rattle.wf_names_rules.specs.Meanings.{GivenValue, given_values, args_in, sort_of, sort_in, sort_at, known_at, passed_at, passed_arg, is_io_arg}
use Rattle.wf_names_rules.specs.Meanings as meanings
use Rattle.graphs.proofs.NumberLemmas.{same_number, numbers_equivalence}
use Rattle.wf_names_uses.specs.Fitting.{Fits}
use Rattle.wf_names_uses.proofs.FoundLemmas.{both-so}
use Rattle.wf_names_resolve.specs.Standing.{standing_at}
use Rattle.wf_names_resolve.specs.Resolved.{NamedGiven, number_or, bare_variable, variable_at, with_arg, args_named, args_spelt, resolved_expr, resolved_type, resolved_given}
use Rattle.wf_names_laws.specs.Kept.{IsKept, AreKept}
use Rattle.wf_names_laws.specs.ResolvedScopes.{IsScopeOf}
use Rattle.wf_names_laws.proofs.ListLemmas.{FoundAt, same-inner, found-or-not, place-of, all-front, all-behind, all-found}
use Rattle.wf_names_laws.proofs.ArgumentLemmas.{AreNamed}
use Rattle.wf_names_laws.proofs.KindLemmas.{io-sort}

-- Of the values that are given no reader or writer is handed on by two.
abbrev pub AreHandedOnce : NamedScope → List NamedGiven → Type 0
AreHandedOnce s given =
    (i j a : ℕ) (g h : NamedGiven) → i < j → slice_get given i ≡ Some g → slice_get given j ≡ Some h → io_handed s g.value ≡ Some a → io_handed s h.value ≡ Some a → ⊥

neither-so : (x y : Bool) → x ≡ false → y ≡ false → (x || y) ≡ false
neither-so false y h k = k
neither-so true y h k = absurd (cc h)

-- The arguments that are wanted, each the first that passes its test.
abbrev args_by : {W : Type 0} → (W → NamedGiven → Bool) → List NamedGiven → List W → NamedArgTrees
args_by p given [] = no_arg
args_by p given (w ∷ ws) = with_arg (find (p w) given) (args_by p given ws)

record Picked {W : Type 0} (p : W → NamedGiven → Bool) (given : List NamedGiven) (w : W) (g : NamedGiven) : Type 0 where
  at : ℕ
  is : slice_get given at ≡ Some g
  passes : p w g ≡ true

picked : {W : Type 0} (p : W → NamedGiven → Bool) (given : List NamedGiven) (w : W) (g : NamedGiven) → find (p w) given ≡ Some g → Picked p given w g
picked p given w g e = elim (found-or-not (p w) 0 given) [
  | inl r ↦ found r
  | inr r ↦ absurd (cc (sym r.found ∙ e))
]
  where
    found : FoundAt (p w) 0 given → Picked p given w g
    found r =
        let same : r.x ≡ g = same-inner r.x g (sym r.found ∙ e) in
        let P : NamedGiven → Type 0 = λ k. Picked p given w k in
        subst P same (record { at = r.i; is = r.is; passes = r.passes })

module _ {W : Type 0} (eq : W → W → Bool) (p : W → NamedGiven → Bool) (one : (v w : W) (g : NamedGiven) → p v g ≡ true → p w g ≡ true → eq v w ≡ true)
    (s : NamedScope) (given : List NamedGiven) (named : AreNamed s given) (apart : AreHandedOnce s given) where
  never-both : (v w : W) (g h : NamedGiven) (a : ℕ) → eq v w ≡ false → Picked p given v g → Picked p given w h → io_handed s g.value ≡ Some a → io_handed s h.value ≡ Some a → ⊥
  never-both v w g h a other x y b c = by_order (nat_lt x.at y.at) refl (nat_lt y.at x.at) refl
    where
      by_order : (t : Bool) → nat_lt x.at y.at ≡ t → (u : Bool) → nat_lt y.at x.at ≡ u → ⊥
      by_order true e u f = apart x.at y.at a g h (grind (arith, nat_tests, e)) x.is y.is b c
      by_order false e true f = apart y.at x.at a h g (grind (arith, nat_tests, f)) y.is x.is c b
      by_order false e false f =
          let same : x.at ≡ y.at = grind (arith, nat_tests, e, f) in
          let alike : g ≡ h = same-inner g h (sym x.is ∙ (ap (slice_get given) same ∙ y.is)) in
          let P : NamedGiven → Type 0 = λ k. p w k ≡ true in
          cc (sym other ∙ one v w g x.passes (subst P (sym alike) y.passes))

  not-that : (v w : W) (g h : NamedGiven) (a b : ℕ) → eq v w ≡ false → Picked p given v g → Picked p given w h → io_handed s g.value ≡ Some a → io_handed s h.value ≡ Some b
      → (t : Bool) → nat_eq a b ≡ t → t ≡ false
  not-that v w g h a b other x y e f false k = refl
  not-that v w g h a b other x y e f true k = absurd (never-both v w g h b other x y (e ∙ ap (λ n. Some n) (same_number a b k)) f)

  not-handed : (v w : W) (g h : NamedGiven) (a : ℕ) → eq v w ≡ false → Picked p given v g → Picked p given w h → io_handed s g.value ≡ Some a
      → (o : Option ℕ) → io_handed s h.value ≡ o → is_that a o ≡ false
  not-handed v w g h a other x y e None f = refl
  not-handed v w g h a other x y e (Some b) f = not-that v w g h a b other x y e f (nat_eq a b) refl

  not-again : (v : W) (g : NamedGiven) (a : ℕ) → Picked p given v g → io_handed s g.value ≡ Some a → (ws : List W) → AllByRecursion (λ w. eq v w ≡ false) ws → hands_on s a (args_by p given ws) ≡ false
  not-again v g a x e [] all = refl
  not-again v g a x e (w ∷ ws) all = with_one (find (p w) given) refl (not-again v g a x e ws all.1)
    where
      with_one : (o : Option NamedGiven) → find (p w) given ≡ o → hands_on s a (args_by p given ws) ≡ false → hands_on s a (with_arg o (args_by p given ws)) ≡ false
      with_one None f later = later
      with_one (Some h) f later =
          neither-so (is_that a (io_handed s h.value)) (hands_on s a (args_by p given ws)) (not-handed v w g h a all.0 x (picked p given w h f) e (io_handed s h.value) refl) later

  once : (v : W) (g : NamedGiven) → Picked p given v g → (ws : List W) → AllByRecursion (λ w. eq v w ≡ false) ws → (o : Option ℕ) → io_handed s g.value ≡ o → never_again s o (args_by p given ws) ≡ true
  once v g x ws all None e = refl
  once v g x ws all (Some a) e = ap not (not-again v g a x e ws all)

  args-handed : (ws : List W) → IsDistinct eq ws → named_args s (args_by p given ws) ≡ true
  unfolding IsDistinct
  args-handed [] d = refl
  args-handed (w ∷ ws) d = with_one (find (p w) given) refl (args-handed ws d.1)
    where
      with_one : (o : Option NamedGiven) → find (p w) given ≡ o → named_args s (args_by p given ws) ≡ true → named_args s (with_arg o (args_by p given ws)) ≡ true
      with_one None e h = h
      with_one (Some g) e h =
          both-so (named_expr s g.value) _ (all-found (λ (x : NamedGiven). named_expr s x.value ≡ true) (p w) given g named e)
          (both-so (named_args s (args_by p given ws)) _ h (once w g (picked p given w g e) ws d.0 (io_handed s g.value) refl))

-- Those of a method, and those of a base method.
abbrev spelt : ℕ → NamedGiven → Bool
spelt text g = is_spelt text g.name

abbrev written : (bytes : ℕ → List ℕ) → List ℕ → NamedGiven → Bool
written bytes name g = bytes_eq name (bytes g.name.text.0)

same-args : (given : List NamedGiven) (wanted : List ℕ) → args_by spelt given wanted ≡ args_named given wanted
same-args given [] = refl
same-args given (text ∷ texts) = ap (with_arg (find (spelt text) given)) (same-args given texts)

same-spelt : (bytes : ℕ → List ℕ) (given : List NamedGiven) (wanted : List (List ℕ)) → args_by (written bytes) given wanted ≡ args_spelt bytes given wanted
same-spelt bytes given [] = refl
same-spelt bytes given (name ∷ names) = ap (with_arg (find (written bytes name) given)) (same-spelt bytes given names)

one-text : (v w : ℕ) (g : NamedGiven) → spelt v g ≡ true → spelt w g ≡ true → nat_eq v w ≡ true
one-text v w g h k = grind (arith, nat_tests, h, k)

one-name : (bytes : ℕ → List ℕ) (v w : List ℕ) (g : NamedGiven) → written bytes v g ≡ true → written bytes w g ≡ true → bytes_eq v w ≡ true
one-name bytes v w g h k =
    let text = bytes g.name.text.0 in
    (bytes_eq-Decides v w).1 ((bytes_eq-Decides v text).0 h ∙ sym ((bytes_eq-Decides w text).0 k))

module _ (s : NamedScope) (given : List NamedGiven) (named : AreNamed s given) (apart : AreHandedOnce s given) where
  pub named-args-named : (wanted : List ℕ) → IsDistinct nat_eq wanted → named_args s (args_named given wanted) ≡ true
  named-args-named wanted d = ap (named_args s) (sym (same-args given wanted)) ∙ args-handed nat_eq spelt one-text s given named apart wanted d

  pub spelt-args-named : (bytes : ℕ → List ℕ) (wanted : List (List ℕ)) → IsDistinct bytes_eq wanted → named_args s (args_spelt bytes given wanted) ≡ true
  spelt-args-named bytes wanted d = ap (named_args s) (sym (same-spelt bytes given wanted)) ∙ args-handed bytes_eq (written bytes) (one-name bytes) s given named apart wanted d

-- A method's arguments have each a name of their own.
pushed-distinct : (seen : List ℕ) (a : ℕ) → IsDistinct nat_eq seen → (t : Bool) → list_any (nat_eq a) seen ≡ t → IsDistinct nat_eq (if t then seen else seen ++ a ∷ [])
pushed-distinct seen a d true e = d
pushed-distinct seen a d false e = IsDistinct-push numbers_equivalence seen a d e

all-distinct : (seen names : List ℕ) → IsDistinct nat_eq seen → IsDistinct nat_eq (insert_all nat_eq seen names)
all-distinct seen [] d = d
all-distinct seen (a ∷ names) d = all-distinct (insert_key nat_eq seen a) names (pushed-distinct seen a d (list_any (nat_eq a) seen) refl)

pub args-distinct : (o : Option Method) → IsDistinct nat_eq (args_in o)
unfolding IsDistinct
args-distinct None = tt
args-distinct (Some m) = all-distinct [] (map (λ (v : Variable). v.name.text.0) m.args) tt

pub base-args-distinct : (sig : BaseSig) → IsDistinct bytes_eq (map (λ arg. arg.0) (row_of sig).args)
unfolding IsDistinct
base-args-distinct sigs.ReaderLength = tt
base-args-distinct sigs.ReaderIsClosed = tt
base-args-distinct sigs.ReaderPosition = tt
base-args-distinct (sigs.Read form) = tt
base-args-distinct sigs.Skip = (tt, tt)
base-args-distinct (sigs.Peek form) = tt
base-args-distinct sigs.SkipFast = ((refl, tt), (tt, tt))
base-args-distinct sigs.WriterLength = tt
base-args-distinct sigs.WriterPosition = tt
base-args-distinct sigs.Write = (tt, tt)
base-args-distinct sigs.WriteFast = (tt, tt)
base-args-distinct sigs.WriterCopy = (tt, tt)
base-args-distinct (sigs.SliceCopy width) = (tt, tt)
base-args-distinct (sigs.SliceLength width) = tt
base-args-distinct (sigs.ArrayLength width) = tt
base-args-distinct sigs.IsOk = tt
base-args-distinct sigs.IsNote = tt
base-args-distinct sigs.IsSuspension = tt
base-args-distinct sigs.IsError = tt

-- A value that hands on a reader or writer is the path of an argument that is one.
module _ (d : Declared) (scope : Scope) (s : NamedScope) (known : IsScopeOf d scope s) where
  record Handed (e : ExprTree) (a : ℕ) : Type 0 where
    path : Path
    is : e ≡ tree.path path
    root : path.root ≡ roots.Args
    io : is_io_arg (known_at d scope).arg path.name.text.0 ≡ true
    v : Variable
    at : slice_get scope.args a ≡ Some v
    spelt_so : path.name.text.0 ≡ v.name.text.0

  io-there : (n a : ℕ) (t : Bool) → (if t then Some n else None) ≡ Some a → (t ≡ true) × (n ≡ a)
  io-there n a true h = (refl, let same : n ≡ a = cc h in same)
  io-there n a false h = absurd (cc h)

  abbrev type_at : ℕ → Option NamedTypeTree
  type_at n = type_of_variable s (variables.Arg (record { 0 = n }))

  arg-handed : (path : Path) (a : ℕ) → path.root ≡ roots.Args → io_named s (variable_at (standing_at d scope) roots.Args path.name.text.0) ≡ Some a
      → is_some (sort_in d scope.args path.name.text.0) ≡ true → Handed (tree.path path) a
  arg-handed path a root h there = elim (found-or-not (λ (v : Variable). is_spelt path.name.text.0 v.name) 0 scope.args) [
    | inl r ↦ found r
    | inr r ↦ absurd (cc (sym there ∙ ap (λ o. is_some (option_map (λ (v : Variable). sort_of (text_of d) v.of) o)) r.found))
  ]
    where
      text : ℕ
      text = path.name.text.0

      found : FoundAt (λ (v : Variable). is_spelt text v.name) 0 scope.args → Handed (tree.path path) a
      found r =
          let number : number_or (place_in scope.args text) ≡ r.i = ap number_or (place-of (λ (v : Variable). is_spelt text v.name) scope.args r) in
          let it = io-there (number_or (place_in scope.args text)) a (is_io (option_and_then kind_of (type_at (number_or (place_in scope.args text))))) h in
          let of = known.args r.i r.x r.is in
          let kind : is_io (kind_of (resolved_type (standing_at d of.0) r.x.of)) ≡ true = sym (ap (λ n. is_io (option_and_then kind_of (type_at n))) number ∙ ap (λ o. is_io (option_and_then kind_of o)) of.1) ∙ it.0 in
          let sort : sort_in d scope.args text ≡ Some (sort_of (text_of d) r.x.of) = ap (option_map (λ (v : Variable). sort_of (text_of d) v.of)) r.found in
          let place : r.i ≡ a = sym number ∙ it.1 in
          record {
            path = path;
            is = refl;
            root = root;
            io = ap meanings.is_io sort ∙ io-sort (standing_at d of.0) r.x.of kind;
            v = r.x;
            at = ap (slice_get scope.args) (sym place) ∙ r.is;
            spelt_so = sym (same_number r.x.name.text.0 text r.passes);
          }

  bare-none : (o c : Option ℕ) (a : ℕ) → io_named s (bare_variable o c) ≡ Some a → ⊥
  bare-none None c a h = cc h
  bare-none (Some n) c a h = cc h

  path-handed : (path : Path) (a : ℕ) (root : Root) → path.root ≡ root → io_named s (variable_at (standing_at d scope) root path.name.text.0) ≡ Some a
      → is_some (sort_at (known_at d scope) root path.name.text.0) ≡ true → Handed (tree.path path) a
  path-handed path a roots.Bare is h there = absurd (bare-none (place_in scope.locals path.name.text.0) (place_in scope.constants path.name.text.0) a h)
  path-handed path a roots.This is h there = absurd (cc h)
  path-handed path a roots.Args is h there = arg-handed path a is h there

  handed : (e : ExprTree) (a : ℕ) → AreKept d scope (uses_of e) → io_handed s (resolved_expr (standing_at d scope) e) ≡ Some a → Handed e a
  handed (tree.path path) a kept h = path-handed path a path.root refl h kept.0
  handed (tree.number value at) a kept h = absurd (cc h)
  handed (tree.own_status text) a kept h = absurd (cc h)
  handed (tree.base_status text at) a kept h = absurd (cc h)
  handed (tree.fine at) a kept h = absurd (cc h)
  handed (tree.truth value at) a kept h = absurd (cc h)
  handed (tree.index base place at) a kept h = absurd (cc h)
  handed (tree.slice base from to at) a kept h = absurd (cc h)
  handed (tree.answer c) a kept h = absurd (cc h)
  handed (tree.chain op first links at) a kept h = absurd (cc h)
  handed (tree.convert of to at) a kept h = absurd (cc h)
  handed (tree.negation of at) a kept h = absurd (cc h)

  -- The value that stands at a place.
  record GivenAt (given : GivenTrees) (i : ℕ) (g : NamedGiven) : Type 0 where
    v : GivenValue
    is : slice_get (given_values given) i ≡ Some v
    value : g.value ≡ resolved_expr (standing_at d scope) v.value
    kept : AreKept d scope (uses_of v.value)

  given-at : (given : GivenTrees) (i : ℕ) (g : NamedGiven) → slice_get (resolved_given (standing_at d scope) given) i ≡ Some g → AreKept d scope (given_uses given) → GivenAt given i g
  given-at tree.no_given i g e kept = absurd (cc e)
  given-at (tree.more_given name value others) zero g e kept =
      let first : NamedGiven = record { name = name; value = resolved_expr (standing_at d scope) value } in
      let same : first ≡ g = same-inner first g e in
      record { v = record { name = name; value = value }; is = refl; value = ap (λ (x : NamedGiven). x.value) (sym same); kept = all-front (IsKept d scope) (uses_of value) (given_uses others) kept }
  given-at (tree.more_given name value others) (suc i) g e kept =
      let r = given-at others i g e (all-behind (IsKept d scope) (uses_of value) (given_uses others) kept) in
      record { v = r.v; is = r.is; value = r.value; kept = r.kept }

  pub given-apart : (on : Receiver) (name : Name) (mark : WrittenMark) (given : GivenTrees) → Fits d scope (tree.call on name mark given) → AreKept d scope (given_uses given)
      → AreHandedOnce s (resolved_given (standing_at d scope) given)
  given-apart on name mark given fits kept i j a g h low e f x y =
      let u = given-at given i g e kept in
      let w = given-at given j h f kept in
      let first = handed u.v.value a u.kept (ap (io_handed s) (sym u.value) ∙ x) in
      let second = handed w.v.value a w.kept (ap (io_handed s) (sym w.value) ∙ y) in
      let same : first.v ≡ second.v = same-inner first.v second.v (sym first.at ∙ second.at) in
      let text : first.path.name.text.0 ≡ second.path.name.text.0 = first.spelt_so ∙ (ap (λ (v : Variable). v.name.text.0) same ∙ sym second.spelt_so) in
      fits.apart second.path.at
      (record {
        first = i;
        second = j;
        earlier = u.v;
        later = w.v;
        path = second.path;
        order = low;
        at_first = u.is;
        at_second = w.is;
        is_arg = second.root;
        passed = second.is;
        same = ap passed_arg first.is ∙ (ap (λ r. passed_at r first.path.name.text.0) first.root ∙ ap (λ n. Some n) text);
        io = second.io;
        here = refl;
      })
