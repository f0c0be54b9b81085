-- The structs of a text, and the functions that make them ready, have the types that C asks.
use Rattle.std.proofs.Common.{◌≡◌, ℕ, suc, ◌+◌, ◌^◌, Bool, true, false, ◌&&◌, ◌||◌, List, [], ◌∷◌, ◌++◌, Option, Some, None, nat_eq, nat_lt, nat_le, refl, sym, ap, subst, arith}
use Rattle.std.specs.Prelude.{if◌then◌else◌, slice_get, codes, is_some, option_and_then}
use Rattle.std.specs.List.{list_all}
use Rattle.std.proofs.lemmas.Bool.Decides.{nat_tests}
use Rattle.wf_base.specs.BaseTable.{bits_of}
use Rattle.wf_ast.specs.declared.types.Ty.{Ty}
use Rattle.wf_ast.specs.declared.types.Ty.TheVariants as types
use Rattle.wf_ast.specs.TypedPackage.{Variable, MethodTree, PackageTree}
use Rattle.wf_ast.specs.WellTyped.{is_coroutine, may_be_field}
use Rattle.wf_ast.proofs.Arena.{both_true}
use Rattle.wf_meaning.specs.Entry.{bad_receiver}
use Rattle.wf_meaning.specs.SourceState.{fields_of}
use Rattle.c_text.specs.declared.kinds.CUint.TheVariants.{U8, U16, U64}
use Rattle.c_text.specs.declared.kinds.CUnary.TheVariants.{Not, Address}
use Rattle.c_text.specs.declared.kinds.Linkage.TheVariants.{External}
use Rattle.c_text.specs.CTree.{TypeTree, uint, text, struct_pointer, ExprTree, unary, Code, finish, leave, plain, FieldTree, ParamTree, ItemTree}
use Rattle.c_meaning.specs.CTypes.{CScope, StructDecl, Function, structs_of, functions_of, scope_of, struct_named, function_named, points_to, object, type_of, held_of, is_known, address_type, passable, arg_types}
use Rattle.c_meaning.specs.CStep.{own as own_function}
use Rattle.c_meaning.specs.UnitForm.{Checked, checked, is_length, is_called, all_distinct, formed_field, formed_fields, formed_call, formed_return, may_assign, has_type}
use Rattle.wf_exprs.specs.Names.{struct_type, initialize_name, point_field, saved_field, held_field, count_field}
use Rattle.wf_exprs.specs.Words.{literal, num, width_of, self, of_self, args}
use Rattle.wf_exprs.specs.Exprs.{status_constant}
use Rattle.wf_lower_stmts.specs.Forms.{is_kept, holds_something, counts_bytes, keeps}
use Rattle.wf_lower.specs.Unit.{source_field, source_fields, kept_type, kept_fields, started_fields, coroutine_fields, methods_fields, struct_fields, initialize_part, initialize_parts, initialize_code, initialize_function}
use Rattle.wf_lower_laws.specs.FormLaw.{typed_code, typed_item}
use Rattle.wf_lower_laws.specs.FieldLaw.{is_short}
use Rattle.wf_lower_laws.specs.KindLaw.{IsText}
use Rattle.wf_lower_laws.proofs.Apart.{has, left_or, right_or}
use Rattle.wf_lower_laws.proofs.Names.{both_hold}
use Rattle.wf_lower_laws.proofs.Orders.{parts_in}
use Rattle.wf_lower_laws.proofs.CodeTypes.{text_fits}
use Rattle.wf_lower_laws.proofs.Frames.{same_bytes}
use Rattle.wf_lower_laws.proofs.Scopes.{HasSelf, own_cell, member_so, source_in, life_in}
use Rattle.wf_lower_laws.proofs.FieldNames.{labels}

-- ---- fields

all_fields : (T : FieldTree → Bool) (xs ys : List FieldTree) → list_all T xs ≡ true → list_all T ys ≡ true → list_all T (xs ++ ys) ≡ true
all_fields T [] ys h j = j
all_fields T (x ∷ xs) ys h j = let q = both_true (T x) (list_all T xs) h in both_hold (T x) (list_all T (xs ++ ys)) q.0 (all_fields T xs ys q.1 j)

if_fields : (T : FieldTree → Bool) (b : Bool) (xs ys : List FieldTree) → list_all T xs ≡ true → list_all T ys ≡ true → list_all T (if b then xs else ys) ≡ true
if_fields T true xs ys h j = h
if_fields T false xs ys h j = j

module _ (p : PackageTree) (structs : List StructDecl) where
  abbrev F : FieldTree → Bool
  F = formed_field structs

  array_formed : (width_type : TypeTree) (name : List ℕ) (count : ℕ) → nat_lt 0 count ≡ true → nat_lt count (2 ^ 31) ≡ true → is_length (Some (literal count)) ≡ true
  array_formed t name count h j =
      let l : nat_le 1 count ≡ true = grind (arith, nat_tests, h) in
      rw j l

  source_formed : (name : List ℕ) (ty : Ty) → may_be_field p ty ≡ true → is_short ty ≡ true → ((t : ℕ) → has (parts_in (record { name = name; ty = ty } ∷ [])) t ≡ true → is_some (struct_named structs (struct_type p t)) ≡ true)
      → F (source_field p (record { name = name; ty = ty })) ≡ true
  source_formed name (types.Num width lo hi) m s h = refl
  source_formed name types.Flag m s h = refl
  source_formed name types.Status m s h = refl
  source_formed name (types.Array width lo hi count) m s h = array_formed (uint (width_of (bits_of width))) name count (both_true (nat_lt 0 count) _ m).0 s
  source_formed name (types.Part t) m s h = both_hold (is_some (struct_named structs (struct_type p t.0))) true (h t.0 (left_or (nat_eq t.0 t.0) false (grind (arith, nat_tests)))) refl
  source_formed name types.Reader m s h = absurd (cc m)
  source_formed name types.Writer m s h = absurd (cc m)
  source_formed name (types.Slice width) m s h = absurd (cc m)

  parts_front : (x : Variable) (xs : List Variable) (t : ℕ) → has (parts_in (x ∷ [])) t ≡ true → has (parts_in (x ∷ xs)) t ≡ true
  parts_front x xs t h = by x.ty h
    where
      by : (ty : Ty) → has (parts_in (record { name = x.name; ty = ty } ∷ [])) t ≡ true → has (parts_in (record { name = x.name; ty = ty } ∷ xs)) t ≡ true
      by (types.Part s) k = one (nat_eq t s.0) k
        where
          one : (b : Bool) → (b || false) ≡ true → (b || has (parts_in xs) t) ≡ true
          one true i = refl
          one false i = absurd (cc i)
      by (types.Num width lo hi) k = absurd (cc k)
      by types.Flag k = absurd (cc k)
      by types.Status k = absurd (cc k)
      by types.Reader k = absurd (cc k)
      by types.Writer k = absurd (cc k)
      by (types.Slice width) k = absurd (cc k)
      by (types.Array width lo hi count) k = absurd (cc k)

  parts_later : (x : Variable) (xs : List Variable) (t : ℕ) → has (parts_in xs) t ≡ true → has (parts_in (x ∷ xs)) t ≡ true
  parts_later x xs t h = by x.ty
    where
      by : (ty : Ty) → has (parts_in (record { name = x.name; ty = ty } ∷ xs)) t ≡ true
      by (types.Part s) = right_or (nat_eq t s.0) (has (parts_in xs) t) h
      by (types.Num width lo hi) = h
      by types.Flag = h
      by types.Status = h
      by types.Reader = h
      by types.Writer = h
      by (types.Slice width) = h
      by (types.Array width lo hi count) = h

  sources_formed : (xs : List Variable) → list_all (λ x. may_be_field p x.ty) xs ≡ true → list_all (λ x. is_short x.ty) xs ≡ true → ((t : ℕ) → has (parts_in xs) t ≡ true → is_some (struct_named structs (struct_type p t)) ≡ true)
      → list_all F (source_fields p xs) ≡ true
  sources_formed [] m s h = refl
  sources_formed (x ∷ xs) m s h =
      let a = both_true (may_be_field p x.ty) (list_all (λ x. may_be_field p x.ty) xs) m in
      let b = both_true (is_short x.ty) (list_all (λ x. is_short x.ty) xs) s in
      both_hold (F (source_field p x)) _ (source_formed x.name x.ty a.0 b.0 (λ t k. h t (parts_front x xs t k))) (sources_formed xs a.1 b.1 (λ t k. h t (parts_later x xs t k)))

  kept_formed : (method : List ℕ) (xs : List Variable) → list_all F (kept_fields method xs) ≡ true
  kept_formed method [] = refl
  kept_formed method (x ∷ xs) = if_fields F (is_kept x.ty) (record { kind = plain (kept_type x.ty); name = saved_field method x.name; count = None } ∷ kept_fields method xs) (kept_fields method xs) (both_hold _ _ (by x.ty) (kept_formed method xs)) (kept_formed method xs)
    where
      by : (ty : Ty) → F (record { kind = plain (kept_type ty); name = saved_field method x.name; count = None }) ≡ true
      by (types.Num width lo hi) = refl
      by types.Flag = refl
      by types.Status = refl
      by types.Reader = refl
      by types.Writer = refl
      by (types.Slice width) = refl
      by (types.Array width lo hi count) = refl
      by (types.Part s) = refl

  started_formed : (m : MethodTree) → list_all F (started_fields m) ≡ true
  started_formed m = by (keeps holds_something m.body) (keeps counts_bytes m.body)
    where
      by : (a b : Bool) → list_all F ((if a then record { kind = plain (uint U64); name = held_field m.name; count = None } ∷ [] else []) ++ (if b then record { kind = plain (uint U8); name = count_field m.name; count = None } ∷ [] else [])) ≡ true
      by true true = refl
      by true false = refl
      by false true = refl
      by false false = refl

  coroutine_formed : (m : MethodTree) → list_all F (coroutine_fields m) ≡ true
  coroutine_formed m =
      if_fields F (is_coroutine m.mark) (record { kind = plain (uint U16); name = point_field m.name; count = None } ∷ kept_fields m.name m.locals ++ started_fields m) []
      (all_fields F (kept_fields m.name m.locals) (started_fields m) (kept_formed m.name m.locals) (started_formed m)) refl

  methods_formed : (s : ℕ) (ms : List MethodTree) → list_all F (methods_fields s ms) ≡ true
  methods_formed s [] = refl
  methods_formed s (m ∷ ms) =
      if_fields F (nat_eq m.of s) (coroutine_fields m ++ methods_fields s ms) (methods_fields s ms) (all_fields F (coroutine_fields m) (methods_fields s ms) (coroutine_formed m) (methods_formed s ms)) (methods_formed s ms)

  pub struct_formed : (s : ℕ) → list_all (λ x. may_be_field p x.ty) (fields_of p s) ≡ true → list_all (λ x. is_short x.ty) (fields_of p s) ≡ true
      → ((t : ℕ) → has (parts_in (fields_of p s)) t ≡ true → is_some (struct_named structs (struct_type p t)) ≡ true) → all_distinct (labels (struct_fields p s)) ≡ true → formed_fields structs (struct_fields p s) ≡ true
  struct_formed s m k h d =
      both_hold (list_all F (struct_fields p s)) _ (all_fields F (source_fields p (fields_of p s)) (methods_fields s p.methods) (sources_formed (fields_of p s) m k h) (methods_formed s p.methods)) d

-- ---- functions that make structs ready

module _ (p : PackageTree) (s : ℕ) (B : List ItemTree) where
  abbrev own_params : List ParamTree
  own_params = record { kind = struct_pointer (struct_type p s); name = codes "self" } ∷ []

  abbrev S : CScope
  S = scope_of B own_params

  abbrev C : Checked
  C = checked B External (Some text) own_params (initialize_code p s)

  module _ (h : HasSelf S p s) (refused : IsText S (status_constant bad_receiver)) where
    returned : (e : ExprTree) → IsText S e → formed_return C (Some e) (Some text) ≡ true
    returned e t = let v = text_fits S e t in rw v.is v.fits

    -- The parts that stand before it are made ready.
    pub record Ready (t : ℕ) : Type 0 where
      pub function : Function
      pub found : function_named (functions_of B) (initialize_name p t) ≡ Some function
      pub params : function.params ≡ record { kind = struct_pointer (struct_type p t); name = codes "self" } ∷ []

    part_typed : (i : ℕ) (name : List ℕ) (ty : Ty) (rest : Code) → slice_get (fields_of p s) i ≡ Some (record { name = name; ty = ty }) → ((t : ℕ) → has (parts_in (record { name = name; ty = ty } ∷ [])) t ≡ true → Ready t)
        → typed_code C rest ≡ true → typed_code C (initialize_part p (record { name = name; ty = ty }) rest) ≡ true
    part_typed i name (types.Part t) rest e r k =
        let ready = r t.0 (left_or (nat_eq t.0 t.0) false (grind (arith, nat_tests))) in
        let x : Variable = record { name = name; ty = types.Part t } in
        let held = member_so S p s h (source_field p x) (source_in p s i x e) in
        let type : type_of S (unary Address (of_self (codes "f_" ++ name))) ≡ Some (points_to (object (struct_type p t.0))) = ap (option_and_then address_type) held in
        let given = args (unary Address (of_self (codes "f_" ++ name)) ∷ []) in
        let P : Option Function → Type 0 = λ o. is_called C None (arg_types S given) o ≡ true in
        let Q : List ParamTree → Type 0 = λ ps. (passable ps (arg_types S given) && true) ≡ true in
        let passed : (passable (record { kind = struct_pointer (struct_type p t.0); name = codes "self" } ∷ []) (arg_types S given) && true) ≡ true = rw (type, same_bytes (struct_type p t.0)) refl in
        both_hold (formed_call own_function C None (initialize_name p t.0) given) (typed_code C rest) (subst P (sym ready.found) (subst Q (sym ready.params) passed)) k
    part_typed i name (types.Num width lo hi) rest e r k = k
    part_typed i name types.Flag rest e r k = k
    part_typed i name types.Status rest e r k = k
    part_typed i name types.Reader rest e r k = k
    part_typed i name types.Writer rest e r k = k
    part_typed i name (types.Slice width) rest e r k = k
    part_typed i name (types.Array width lo hi count) rest e r k = k

    parts_typed : (j : ℕ) (xs : List Variable) (rest : Code) → ((i : ℕ) (x : Variable) → slice_get xs i ≡ Some x → slice_get (fields_of p s) (j + i) ≡ Some x) → ((t : ℕ) → has (parts_in xs) t ≡ true → Ready t)
        → typed_code C rest ≡ true → typed_code C (initialize_parts p xs rest) ≡ true
    parts_typed j [] rest o r k = k
    parts_typed j (x ∷ xs) rest o r k =
        let q : j + 0 ≡ j = omega arith in
        let P : ℕ → Type 0 = λ z. slice_get (fields_of p s) z ≡ Some x in
        part_typed j x.name x.ty (initialize_parts p xs rest) (subst P q (o 0 x refl)) (λ t a. r t (parts_front p (structs_of B) x xs t a))
        (parts_typed (suc j) xs rest (λ i y e. let q : j + suc i ≡ suc j + i = omega arith in let P : ℕ → Type 0 = λ z. slice_get (fields_of p s) z ≡ Some y in subst P q (o (suc i) y e)) (λ t a. r t (parts_later p (structs_of B) x xs t a)) k)

    pub init_typed : is_some (struct_named (structs_of B) (struct_type p s)) ≡ true → ((t : ℕ) → has (parts_in (fields_of p s)) t ≡ true → Ready t) → typed_item B (initialize_function p s) ≡ true
    init_typed known r =
        let life = own_cell S p s h (uint U8) (codes "life") refl (life_in p s) in
        let last : typed_code C (leave (Some (num 0)) finish) ≡ true = refl in
        let parts = parts_typed 0 (fields_of p s) (leave (Some (num 0)) finish) (λ i x e. let q : i ≡ 0 + i = omega arith in let P : ℕ → Type 0 = λ z. slice_get (fields_of p s) z ≡ Some x in subst P q e) r last in
        let ready : may_assign (held_of S (of_self (codes "life"))) (type_of S (num 1)) ≡ true = rw life refl in
        let test : has_type C (unary Not self) ≡ true = refl in
        let refuse : typed_code C (leave (Some (status_constant bad_receiver)) finish) ≡ true = both_hold (formed_return C (Some (status_constant bad_receiver)) (Some text)) true (returned (status_constant bad_receiver) refused) refl in
        let own : typed_code C (initialize_code p s) ≡ true =
        both_hold (has_type C (unary Not self)) _ test (both_hold (typed_code C (leave (Some (status_constant bad_receiver)) finish)) _ refuse
        (both_hold (may_assign (held_of S (of_self (codes "life"))) (type_of S (num 1))) _ ready parts)) in
        both_hold (list_all (λ q. is_known (structs_of B) q.kind) own_params) _ (both_hold (is_some (struct_named (structs_of B) (struct_type p s))) true known refl) own
