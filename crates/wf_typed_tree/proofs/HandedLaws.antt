-- Where a call hands on no reader or writer twice in the resolved tree, it doesn't in the typed tree either.
use Rattle.std.proofs.Common.{◌≡◌, ℕ, Bool, true, false, not, ◌||◌, List, [], ◌∷◌, Option, Some, None, nat_eq, refl, sym, ap, ◌∙◌, subst}
use Rattle.std.specs.Prelude.{◌-◌, ◌^◌, ◌&&◌, nat_lt, nat_le, min, if◌then◌else◌, option_map, option_and_then}
use Rattle.wf_text.specs.declared.place.Place.{Place}
use Rattle.wf_base.specs.declared.widths.Width.{Width}
use Rattle.wf_base.specs.declared.base_methods.BaseSig.{BaseSig}
use Rattle.wf_base.specs.declared.base_methods.BaseSig.TheVariants as sigs
use Rattle.wf_base.specs.BaseTable.{bits_of}
use Rattle.wf_ast.specs.declared.types.Ty.{Ty}
use Rattle.wf_ast.specs.declared.types.Ty.TheVariants as types
use Rattle.wf_ast.specs.declared.variables.ArgId.{ArgId}
use Rattle.wf_ast.specs.TypedTree.{Order, equal, differs, less, at_most, greater, at_least, ValueTree, numeric, logical, state, elements, io, lost}
use Rattle.wf_ast.specs.TypedTrees.{OperatorKind, arithmetic, ordering, joining, operator_kind, named, comparison, chain_of, answer_of}
use Rattle.wf_ast.specs.TypedInvariant.{is_io}
use Rattle.wf_ast.specs.WellTyped.{io_handed, is_that, hands_on, never_again, hands_on_once}
use Rattle.wf_named.specs.declared.nodes.BaseType.TheVariants as bases
use Rattle.wf_named.specs.declared.nodes.NamedCallee.TheVariants as callees
use Rattle.wf_named.specs.declared.nodes.Variable.{Variable}
use Rattle.wf_named.specs.declared.nodes.Variable.TheVariants as variables
use Rattle.wf_named.specs.NamedTree.{NamedExprTree, number, status, truth, path, index, slice, answer, chain, convert, negation, NamedCallTree, call, NamedTypeTree, slice_of, array_of, base_type, struct_type, unrefined, refined, NamedArgTrees, no_arg, more_args, VarTree, NamedMethodTree, NamedPackageTree}
use Rattle.wf_named.specs.WellNamed.{type_of_variable, kind_of, named_expr, named_args}
use Rattle.wf_named.specs.WellNamed as names_rules
use Rattle.wf_types_rules.specs.declared.meanings.Meaning.{Meaning}
use Rattle.wf_types_rules.specs.declared.meanings.Meaning.TheVariants as meanings
use Rattle.wf_types_rules.specs.declared.settings.Setting.{Setting}
use Rattle.wf_types_rules.specs.declared.settings.Role.TheVariants as roles
use Rattle.wf_types_rules.specs.DeclaredTypes.{for_types}
use Rattle.wf_types_rules.specs.Meanings.{variable}
use Rattle.wf_types_rules.specs.ExprTypes.{number_of, low_number, plain_width, refined_type, array_type, written}
use Rattle.wf_typed_tree.specs.ElaboratedExprs.{path_to, variable_tree, type_of, number_or, signs_in, answer_tree, expr_tree, link_trees, arg_trees}
use Rattle.wf_typed_tree.proofs.NumberLemmas.{both, and-true}
use Rattle.wf_typed_tree.proofs.NoBreaks.{either-false}
use Rattle.wf_typed_tree.proofs.DeclaredLaws.{declared-parts}
use Rattle.wf_typed_tree.proofs.Agreement.{MethodIs, meaning-parts}
use Rattle.wf_typed_tree.proofs.BodyLaws.{around, names}

neither : (x y : Bool) → x ≡ false → y ≡ false → (x || y) ≡ false
neither false y h k = k
neither true y h k = absurd (cc h)

-- A written type that is a reader or writer has that kind.
abbrev is_io_type : Option Ty → Bool
is_io_type None = false
is_io_type (Some ty) = is_io ty

no-slice : (o : Option Width) → is_io_type (option_map types.Slice o) ≡ true → ⊥
no-slice None h = cc h
no-slice (Some width) h = cc h

no-range : (b : Bool) (width : Width) (m n : ℕ) → is_io_type (if b then Some (types.Num width m n) else None) ≡ true → ⊥
no-range true width m n h = cc h
no-range false width m n h = cc h

no-refined : (width : Width) (low high : Option ℕ) → is_io_type (refined_type width low high) ≡ true → ⊥
no-refined width None high h = cc h
no-refined width (Some m) None h = cc h
no-refined width (Some m) (Some n) h = no-range (nat_le m n && nat_lt n (2 ^ bits_of width)) width m n h

no-items : (b : Bool) (width : Width) (lo hi n : ℕ) → is_io_type (if b then Some (types.Array width lo hi n) else None) ≡ true → ⊥
no-items true width lo hi n h = cc h
no-items false width lo hi n h = cc h

no-array : (count : Option ℕ) (element : Option Ty) → is_io_type (array_type count element) ≡ true → ⊥
no-array None element h = cc h
no-array (Some n) None h = cc h
no-array (Some n) (Some (types.Num width lo hi)) h = no-items (nat_lt 0 n && nat_eq lo 0) width lo hi (min n (2 ^ 32 - 1)) h
no-array (Some n) (Some types.Flag) h = cc h
no-array (Some n) (Some types.Status) h = cc h
no-array (Some n) (Some types.Reader) h = cc h
no-array (Some n) (Some types.Writer) h = cc h
no-array (Some n) (Some (types.Part part)) h = cc h
no-array (Some n) (Some (types.Slice width)) h = cc h
no-array (Some n) (Some (types.Array width lo hi count)) h = cc h

io-written : (s : Setting) (t : NamedTypeTree) → is_io_type (written s t) ≡ true → names_rules.is_io (kind_of t) ≡ true
io-written s (base_type (Some bases.Reader) at bounds) h = refl
io-written s (base_type (Some bases.Writer) at bounds) h = refl
io-written s (base_type (Some (bases.Number width)) at unrefined) h = absurd (cc h)
io-written s (base_type (Some (bases.Number width)) at (refined low high)) h = absurd (no-refined width (low_number s low) (number_of s high) h)
io-written s (base_type (Some bases.Flag) at unrefined) h = absurd (cc h)
io-written s (base_type (Some bases.Flag) at (refined low high)) h = absurd (cc h)
io-written s (base_type (Some bases.Status) at unrefined) h = absurd (cc h)
io-written s (base_type (Some bases.Status) at (refined low high)) h = absurd (cc h)
io-written s (base_type None at bounds) h = absurd (cc h)
io-written s (slice_of at element) h = absurd (no-slice (plain_width element) h)
io-written s (array_of count at element) h = absurd (no-array (number_of s count) (written s element) h)
io-written s (struct_type k at) h = absurd (cc h)

-- Only a path stands for a reader or writer.
none-answer : (at : Place) (sig : BaseSig) (t : ValueTree) → io_handed (answer_of at sig t) ≡ None
none-answer at sigs.ReaderLength t = refl
none-answer at sigs.ReaderIsClosed t = refl
none-answer at sigs.ReaderPosition t = refl
none-answer at (sigs.Read form) t = refl
none-answer at sigs.Skip t = refl
none-answer at (sigs.Peek form) t = refl
none-answer at sigs.SkipFast t = refl
none-answer at sigs.WriterLength t = refl
none-answer at sigs.WriterPosition t = refl
none-answer at sigs.Write t = refl
none-answer at sigs.WriteFast t = refl
none-answer at sigs.WriterCopy t = refl
none-answer at (sigs.SliceCopy width) t = refl
none-answer at (sigs.SliceLength width) t = refl
none-answer at (sigs.ArrayLength width) t = refl
none-answer at sigs.IsOk t = refl
none-answer at sigs.IsNote t = refl
none-answer at sigs.IsSuspension t = refl
none-answer at sigs.IsError t = refl

none-called : (s : Setting) (c : NamedCallTree) → io_handed (answer_tree s c) ≡ None
none-called s (call (callees.Own k) at mark args) = refl
none-called s (call (callees.Sub x k) at mark args) = refl
none-called s (call (callees.Base on sig) at mark args) = none-answer at sig _

none-compared : (at sign : Place) (op : Order) (t u : ValueTree) → io_handed (comparison at sign op t u) ≡ None
none-compared at sign equal (numeric a) u = refl
none-compared at sign equal (logical a) u = refl
none-compared at sign equal (state a) u = refl
none-compared at sign equal (elements a) u = refl
none-compared at sign equal (io here a) u = refl
none-compared at sign equal lost u = refl
none-compared at sign differs (numeric a) u = refl
none-compared at sign differs (logical a) u = refl
none-compared at sign differs (state a) u = refl
none-compared at sign differs (elements a) u = refl
none-compared at sign differs (io here a) u = refl
none-compared at sign differs lost u = refl
none-compared at sign less t u = refl
none-compared at sign at_most t u = refl
none-compared at sign greater t u = refl
none-compared at sign at_least t u = refl

none-chained : (at : Place) (signs : List Place) (ty : Ty) (sort : OperatorKind) (t : ValueTree) (ts : List ValueTree) → io_handed (chain_of at signs ty sort (t ∷ ts)) ≡ None
none-chained at signs ty (arithmetic op) t ts = refl
none-chained at signs ty (joining and_all) t ts = refl
none-chained at signs ty (ordering op) t [] = refl
none-chained at signs ty (ordering op) t (u ∷ ts) = none-compared at _ op t u

none-or : (at : Place) (o : Option ℕ) (t : ValueTree) → io_handed t ≡ None → io_handed (number_or at o t) ≡ None
none-or at None t h = h
none-or at (Some value) t h = refl

-- A path that does is an argument.
record IsArg (x : Variable) (ty : Ty) (a : ℕ) : Type 0 where
  y : ArgId
  is : x ≡ variables.Arg y
  number_is : y.0 ≡ a
  io_is : is_io ty ≡ true

arg-named : (at : Place) (ty : Ty) (x : Variable) (a : ℕ) → io_handed (named at ty (path_to x)) ≡ Some a → IsArg x ty a
arg-named at types.Reader (variables.Arg y) a h = record { y = y; is = refl; number_is = cc h; io_is = refl }
arg-named at types.Reader (variables.Local y) a h = absurd (cc h)
arg-named at types.Reader (variables.Field y) a h = absurd (cc h)
arg-named at types.Reader (variables.Const y) a h = absurd (cc h)
arg-named at types.Writer (variables.Arg y) a h = record { y = y; is = refl; number_is = cc h; io_is = refl }
arg-named at types.Writer (variables.Local y) a h = absurd (cc h)
arg-named at types.Writer (variables.Field y) a h = absurd (cc h)
arg-named at types.Writer (variables.Const y) a h = absurd (cc h)
arg-named at (types.Num width lo hi) x a h = absurd (cc h)
arg-named at types.Flag x a h = absurd (cc h)
arg-named at types.Status x a h = absurd (cc h)
arg-named at (types.Slice width) x a h = absurd (cc h)
arg-named at (types.Array width lo hi count) x a h = absurd (cc h)
arg-named at (types.Part part) x a h = absurd (cc h)

chosen : (b : Bool) (n : ℕ) → b ≡ true → (if b then Some n else None) ≡ Some n
chosen true n h = refl
chosen false n h = absurd (cc h)

module _ (p : NamedPackageTree) (n : ℕ) (m : NamedMethodTree) (is : MethodIs p m) where
  io-declared : (y : ArgId) (ty : Ty) → variable (around p n m is) (variables.Arg y) ≡ Some (meanings.Typed ty) → is_io ty ≡ true
      → names_rules.is_io (option_and_then kind_of (type_of_variable (names p n m is) (variables.Arg y))) ≡ true
  io-declared y ty h k =
      let it = meaning-parts p roles.Arg m.args y.0 (meanings.Typed ty) h in
      let same : it.0 ≡ ty = cc it.2 in
      let parts = declared-parts (for_types p) roles.Arg it.1.of.of it.0 it.1.is in
      let O : Option Ty → Type 0 = λ o. is_io_type o ≡ true in
      let I : Ty → Type 0 = λ z. is_io z ≡ true in
      let V : Option VarTree → Type 0 = λ o. names_rules.is_io (option_and_then kind_of (option_map (λ (x : VarTree). x.of) o)) ≡ true in
      subst V (sym it.1.at) (io-written (for_types p) it.1.of.of (subst O (sym parts.is) (subst I (sym same) k)))

  io-path : (at : Place) (x : Variable) (o : Option Meaning) (a : ℕ) → variable (around p n m is) x ≡ o → io_handed (variable_tree at x o) ≡ Some a
      → names_rules.io_named (names p n m is) x ≡ Some a
  io-path at x None a e h = absurd (cc h)
  io-path at x (Some (meanings.Constant width value)) a e h = absurd (cc h)
  io-path at x (Some (meanings.Typed ty)) a e h =
      let it = arg-named at ty x a h in
      let M : Variable → Type 0 = λ z. variable (around p n m is) z ≡ Some (meanings.Typed ty) in
      let kind = io-declared it.y ty (subst M it.is e) it.io_is in
      ap (names_rules.io_named (names p n m is)) it.is
      ∙ (chosen (names_rules.is_io (option_and_then kind_of (type_of_variable (names p n m is) (variables.Arg it.y)))) it.y.0 kind ∙ ap (λ k. Some k) it.number_is)

  none-so : (t : ValueTree) (a : ℕ) → io_handed t ≡ None → io_handed t ≡ Some a → ⊥
  none-so t a none h = cc (sym none ∙ h)

  io-same : (e : NamedExprTree) (a : ℕ) → io_handed (expr_tree (around p n m is) e) ≡ Some a → names_rules.io_handed (names p n m is) e ≡ Some a
  io-same (path q) a h = io-path q.at q.of (variable (around p n m is) q.of) a refl h
  io-same (number value at) a h = absurd (cc h)
  io-same (status k at) a h = absurd (cc h)
  io-same (truth value at) a h = absurd (cc h)
  io-same (index q i at) a h = absurd (cc h)
  io-same (slice q from to at) a h = absurd (cc h)
  io-same (answer c) a h = absurd (none-so (answer_tree (around p n m is) c) a (none-called (around p n m is) c) h)
  io-same (chain op first links at) a h =
      let s = around p n m is in
      let whole = chain_of at (signs_in links) (type_of s (chain op first links at)) (operator_kind op) (expr_tree s first ∷ link_trees s links) in
      absurd (none-so (number_or at (number_of s (chain op first links at)) whole) a (none-or at (number_of s (chain op first links at)) whole (none-chained at (signs_in links) _ (operator_kind op) _ _)) h)
  io-same (convert e t at) a h =
      absurd (none-so (expr_tree (around p n m is) (convert e t at)) a (none-or at (number_of (around p n m is) (convert e t at)) _ refl) h)
  io-same (negation e at) a h = absurd (cc h)

  -- So it is of the arguments of a call.
  that-not : (e : NamedExprTree) (a : ℕ) (o : Option ℕ) → io_handed (expr_tree (around p n m is) e) ≡ o → names_rules.is_that a (names_rules.io_handed (names p n m is) e) ≡ false → is_that a o ≡ false
  that-not e a None f h = refl
  that-not e a (Some b) f h = let T : Option ℕ → Type 0 = λ k. names_rules.is_that a k ≡ false in subst T (io-same e b f) h

  not-handed : (a : ℕ) (args : NamedArgTrees) → names_rules.hands_on (names p n m is) a args ≡ false → hands_on a (arg_trees (around p n m is) args) ≡ false
  not-handed a no_arg h = refl
  not-handed a (more_args e others) h =
      let parts = either-false (names_rules.is_that a (names_rules.io_handed (names p n m is) e)) (names_rules.hands_on (names p n m is) a others) h in
      neither (is_that a (io_handed (expr_tree (around p n m is) e))) (hands_on a (arg_trees (around p n m is) others)) (that-not e a (io_handed (expr_tree (around p n m is) e)) refl parts.0)
      (not-handed a others parts.1)

  not-so : (b : Bool) → not b ≡ true → b ≡ false
  not-so true h = absurd (cc h)
  not-so false h = refl

  never-same : (e : NamedExprTree) (others : NamedArgTrees) (o : Option ℕ) → io_handed (expr_tree (around p n m is) e) ≡ o
      → names_rules.never_again (names p n m is) (names_rules.io_handed (names p n m is) e) others ≡ true → never_again o (arg_trees (around p n m is) others) ≡ true
  never-same e others None f h = refl
  never-same e others (Some a) f h =
      let N : Option ℕ → Type 0 = λ k. names_rules.never_again (names p n m is) k others ≡ true in
      ap not (not-handed a others (not-so (names_rules.hands_on (names p n m is) a others) (subst N (io-same e a f) h)))

  pub handed-once : (args : NamedArgTrees) → named_args (names p n m is) args ≡ true → hands_on_once (arg_trees (around p n m is) args) ≡ true
  handed-once no_arg h = refl
  handed-once (more_args e others) h =
      let first = both (named_expr (names p n m is) e) _ h in
      let rest = both (named_args (names p n m is) others) _ first.1 in
      and-true (never_again (io_handed (expr_tree (around p n m is) e)) (arg_trees (around p n m is) others)) _ (never-same e others (io_handed (expr_tree (around p n m is) e)) refl rest.1) (handed-once others rest.0)
