-- A scope that has all that a method's body may name, and that the body's statements find all in it.
use Rattle.std.proofs.Common.{◌≡◌, ◌⊎◌, inl, inr, ℕ, zero, suc, ◌+◌, ◌<◌, ◌^◌, Bool, true, false, not, List, [], ◌∷◌, ◌++◌, length, map, Option, Some, None, nat_eq, nat_lt, refl, sym, ap, ◌∙◌, subst, arith}
use Rattle.std.specs.Prelude.{if◌then◌else◌, find, slice_get, bytes_eq, codes, is_some, option_map, option_and_then}
use Rattle.std.specs.List.{list_all, AllByRecursion}
use Rattle.std.proofs.lemmas.Bool.Decides.{nat_tests}
use Rattle.std.proofs.lemmas.Slice.Eq.{bytes_eq-Decides}
use Rattle.wf_text.specs.Surface.{PublicArg}
use Rattle.wf_base.specs.BaseTable.{bits_of}
use Rattle.wf_ast.specs.declared.types.Ty.{Ty}
use Rattle.wf_ast.specs.declared.types.Ty.TheVariants as types
use Rattle.wf_ast.specs.TypedPackage.{Variable, StructTree, MethodTree, PackageTree, kind_of}
use Rattle.wf_ast.specs.TypedTree.{Path, local, field, arg, NumType, Called, own, sub}
use Rattle.wf_ast.specs.WellTyped.{type_at, variable_at, field_at, same_num_type, is_number, is_array, is_slice, is_flag, is_status, is_reader, is_writer, is_coroutine, may_be_arg, may_be_local, may_be_field, may_be_result, struct_of_field, calls_method, number_of, well_method}
use Rattle.wf_ast.proofs.Arena.{both_true}
use Rattle.wf_meaning.specs.SourceState.{fields_of}
use Rattle.c_text.specs.declared.kinds.CUint.TheVariants.{U8, U16, U64}
use Rattle.wf_meaning.specs.Entry.{short_read, short_write, cannot_suspend}
use Rattle.c_text.specs.declared.kinds.CUnary.TheVariants.{Address}
use Rattle.c_text.specs.declared.kinds.Linkage.TheVariants.{Static}
use Rattle.c_text.specs.CSpelling.{is_word_byte}
use Rattle.c_text.specs.CTree.{TypeTree, uint, size, boolean, uint_pointer, struct_pointer, text, variable, member, unary, plain, FieldTree, ParamTree, LocalTree}
use Rattle.c_meaning.specs.CTypes.{CScope, StructDecl, Function, functions_of, struct_named, function_named, local_name, points_to, object, byte, one, held_type, value_type, is_numeric, type_of, held_of, io_buffer, assignable, address_type}
use Rattle.c_meaning.specs.CStep.{callee_of, own as own_function, memory_move}
use Rattle.c_meaning.specs.UnitForm.{Checked, is_among, all_distinct, args_params, arg_params}
use Rattle.wf_exprs.specs.Names.{named, local_name as source_local, local_pointer, local_length, arg_name, arg_pointer, arg_length, io_place, io_end, io_bytes, field_name, status_name, struct_type, body_name, entry_name, point_field, saved_field, held_field, count_field}
use Rattle.wf_exprs.specs.Words.{num, width_of, self, of_self}
use Rattle.wf_exprs.specs.Helpers.{all_saturating}
use Rattle.wf_exprs.specs.Exprs.{path_code, path_pair, io_code, place_code, end_code, bytes_code}
use Rattle.wf_exprs.specs.Reads.{code_reads}
use Rattle.wf_lower_stmts.specs.Forms.{Form, form_of, is_io, is_kept, place_in, end_of, holds_something, counts_bytes, keeps}
use Rattle.wf_lower_stmts.specs.Statements.{callee_name, receiver_code}
use Rattle.wf_lower.specs.Bodies.{params_of, result_of, io_locals, bytes_locals, local_of, locals_of, further_locals, resume_of, fixed_locals, body_code}
use Rattle.wf_lower.specs.Unit.{struct_fields, source_field, kept_type, kept_fields, started_fields}
use Rattle.wf_lower_laws.specs.NameLaw.{begins}
use Rattle.wf_lower_laws.specs.KindLaw.{IsNum, IsPointer, IsBuffer, Declares}
use Rattle.wf_lower_laws.proofs.Names.{both_hold, among_passes}
use Rattle.wf_lower_laws.proofs.OwnNames.{args_labels, args_all, labels, io_all, locals_all, bytes_all, bytes_distinct, all_both, labels_both, map_both}
use Rattle.wf_lower_laws.proofs.NameLaw.{Words, named_at, from_front}
use Rattle.wf_lower_laws.proofs.CodeTypes.{Cell, NumCell, held_fits, variable_num, member_num}
use Rattle.wf_lower_laws.proofs.Frames.{same_bytes}
use Rattle.wf_lower_laws.proofs.Typing.{all_helpers, all_bytes, known_status, around, reader_is_io, writer_is_io, KeptCells, Kept, IoCells, Callable, Serves}
use Rattle.wf_lower_laws.proofs.Finding.{found_front, found_behind, found_none, There, there_first, there_later, there_front, there_behind, there_map, there_found}
use Rattle.wf_lower_laws.proofs.FieldNames.{labels as field_labels}
use Rattle.wf_lower_laws.proofs.Statuses.{all_texts, constant_text, saturated_num}
use Rattle.wf_lower_laws.proofs.Scopes.{io_fields, name_of, name_held, name_type, io_written, io_read, io_position, io_closed, io_limit, HasSelf, self_type, member_so, own_cell, source_in, method_in}

-- A variable of the source in C, where it is one value.
abbrev in_c : Ty → Option TypeTree
in_c (types.Num width lo hi) = Some (uint (width_of (bits_of width)))
in_c types.Flag = Some boolean
in_c types.Status = Some text
in_c ty = None

number_in_c : (of : NumType) (ty : Ty) → is_number of (Some ty) ≡ true → (t : TypeTree) × ((in_c ty ≡ Some t) × (is_numeric t ≡ true))
number_in_c of (types.Num width lo hi) h = (uint (width_of (bits_of width)), (refl, refl))
number_in_c of types.Flag h = absurd (cc h)
number_in_c of types.Status h = absurd (cc h)
number_in_c of types.Reader h = absurd (cc h)
number_in_c of types.Writer h = absurd (cc h)
number_in_c of (types.Slice width) h = absurd (cc h)
number_in_c of (types.Array width lo hi count) h = absurd (cc h)
number_in_c of (types.Part s) h = absurd (cc h)

flag_in_c : (ty : Ty) → is_flag (Some ty) ≡ true → in_c ty ≡ Some boolean
flag_in_c types.Flag h = refl
flag_in_c (types.Num width lo hi) h = absurd (cc h)
flag_in_c types.Status h = absurd (cc h)
flag_in_c types.Reader h = absurd (cc h)
flag_in_c types.Writer h = absurd (cc h)
flag_in_c (types.Slice width) h = absurd (cc h)
flag_in_c (types.Array width lo hi count) h = absurd (cc h)
flag_in_c (types.Part s) h = absurd (cc h)

status_in_c : (ty : Ty) → is_status (Some ty) ≡ true → in_c ty ≡ Some text
status_in_c types.Status h = refl
status_in_c (types.Num width lo hi) h = absurd (cc h)
status_in_c types.Flag h = absurd (cc h)
status_in_c types.Reader h = absurd (cc h)
status_in_c types.Writer h = absurd (cc h)
status_in_c (types.Slice width) h = absurd (cc h)
status_in_c (types.Array width lo hi count) h = absurd (cc h)
status_in_c (types.Part s) h = absurd (cc h)

some_type : (o : Option Ty) (test : Option Ty → Bool) → test o ≡ true → test None ≡ false → (ty : Ty) × ((o ≡ Some ty) × (test (Some ty) ≡ true))
some_type None test h n = absurd (cc (h, n))
some_type (Some ty) test h n = (ty, (refl, h))

all_at : {X : Type 0} (T : X → Bool) (xs : List X) (i : ℕ) (x : X) → list_all T xs ≡ true → slice_get xs i ≡ Some x → T x ≡ true
all_at T [] i x h e = absurd (cc e)
all_at T (y ∷ xs) zero x h e = let same : y ≡ x = cc e in subst (λ z. T z ≡ true) same (both_true (T y) (list_all T xs) h).0
all_at T (y ∷ xs) (suc i) x h e = all_at T xs i x (both_true (T y) (list_all T xs) h).1 e

not_there : (T : List ℕ → Bool) (ls : List (List ℕ)) (l : List ℕ) → list_all T ls ≡ true → T l ≡ false → is_among ls l ≡ false
not_there T ls l h e = by (is_among ls l) refl
  where
    by : (b : Bool) → is_among ls l ≡ b → is_among ls l ≡ false
    by false g = g
    by true g = absurd (cc (among_passes T ls l h g, e))

abbrev public_args : List Variable → List PublicArg
public_args xs = map (λ x. record { name = x.name; kind = kind_of x.ty }) xs

abbrev pub MayBeCalled : List ℕ → Type 0
MayBeCalled name = (begins (codes "sat_") name ≡ false) × ((callee_of name ≡ own_function) ⊎ (callee_of name ≡ memory_move))

module _ (p : PackageTree) (n : ℕ) (m : MethodTree) (structs : List StructDecl) (fs : List Function) where
  abbrev pub f : Form
  f = form_of p m

  abbrev pub front : List ParamTree
  front = params_of p m ++ map local_name (fixed_locals f)

  abbrev pub resume_locals : List LocalTree
  resume_locals = if is_coroutine m.mark then resume_of m ∷ [] else []

  abbrev pub behind : List ParamTree
  behind = map local_name (bytes_locals f 0 m.args) ++ (map local_name further_locals ++ map local_name resume_locals)

  abbrev pub T : CScope
  T = record { structs = structs; texts = all_texts 0 p.statuses; functions = functions_of all_saturating ++ fs; names = front ++ behind }

  abbrev pub c : Checked
  c = record { scope = T; linkage = Static; result_type = result_of m; body = body_code f }

  abbrev pub Settled : List ℕ → Type 0
  Settled name = (is_some (find (λ it. bytes_eq it.name name) front) ≡ true) ⊎ (code_reads name (body_code f) ≡ true)

  -- What the package and the items before it give.
  pub record Given (known : ℕ → Bool) : Type 0 where
    pub is : slice_get p.methods n ≡ Some m
    pub words : Words m
    pub few : length p.statuses < 2 ^ 64
    pub args_are : list_all (λ v. may_be_arg v.ty) m.args ≡ true
    pub locals_are : list_all (λ v. may_be_local v.ty) m.locals ≡ true
    pub fields_are : (s : ℕ) (it : StructTree) → slice_get p.structs s ≡ Some it → list_all (λ v. may_be_field p v.ty) it.fields ≡ true
    pub distinct : all_distinct (map name_of front) ≡ true
    pub io : struct_named structs io_buffer ≡ Some (record { fields = io_fields; name = io_buffer })
    pub own : struct_named structs (struct_type p m.of) ≡ Some (record { fields = struct_fields p m.of; name = struct_type p m.of })
    pub fields_apart : all_distinct (field_labels (struct_fields p m.of)) ≡ true

  module _ (known : ℕ → Bool) (g : Given known) where
    -- ---- names before it

    lookup : (x : ParamTree) → There x front → find (λ it. bytes_eq it.name x.name) T.names ≡ Some x
    lookup x h = found_front name_of front behind x.name x (there_found name_of front x g.distinct h)

    front_cell : (x : ParamTree) → There x front → Cell Settled T x.kind (variable x.name)
    front_cell x h = record { held = name_held T x (lookup x h); settled = λ name e. inl (by name e) }
      where
        by : (name : List ℕ) → bytes_eq name x.name ≡ true → is_some (find (λ it. bytes_eq it.name name) front) ≡ true
        by name e =
            let P : List ℕ → Type 0 = λ z. is_some (find (λ it. bytes_eq it.name z) front) ≡ true in
            subst P (sym ((bytes_eq-Decides name x.name).0 e)) (rw (there_found name_of front x g.distinct h) refl)

    param_there : (x : ParamTree) → There x (params_of p m) → There x front
    param_there x h = there_front x (params_of p m) (map local_name (fixed_locals f)) h

    pub args_there : (xs : List Variable) (i : ℕ) (v : Variable) (x : ParamTree) → slice_get xs i ≡ Some v → There x (arg_params (record { name = v.name; kind = kind_of v.ty })) → There x (args_params (public_args xs))
    args_there [] i v x e h = absurd (cc e)
    args_there (y ∷ xs) zero v x e h =
        let same : y ≡ v = cc e in
        let P : Variable → Type 0 = λ z. There x (arg_params (record { name = z.name; kind = kind_of z.ty }) ++ args_params (public_args xs)) in
        subst P (sym same) (there_front x (arg_params (record { name = v.name; kind = kind_of v.ty })) (args_params (public_args xs)) h)
    args_there (y ∷ xs) (suc i) v x e h = there_behind x (arg_params (record { name = y.name; kind = kind_of y.ty })) (args_params (public_args xs)) (args_there xs i v x e h)

    arg_there : (i : ℕ) (v : Variable) (x : ParamTree) → slice_get m.args i ≡ Some v → There x (arg_params (record { name = v.name; kind = kind_of v.ty })) → There x front
    arg_there i v x e h = param_there x (there_later x _ _ (args_there m.args i v x e h))

    fixed_there : (l : LocalTree) → There l (fixed_locals f) → There (local_name l) front
    fixed_there l h = there_behind (local_name l) (params_of p m) (map local_name (fixed_locals f)) (there_map local_name l (fixed_locals f) h)

    locals_there : (xs : List Variable) (i : ℕ) (v : Variable) (l : LocalTree) → slice_get xs i ≡ Some v → There l (local_of v) → There l (locals_of xs)
    locals_there [] i v l e h = absurd (cc e)
    locals_there (y ∷ xs) zero v l e h =
        let same : y ≡ v = cc e in
        let P : Variable → Type 0 = λ z. There l (local_of z ++ locals_of xs) in
        subst P (sym same) (there_front l (local_of v) (locals_of xs) h)
    locals_there (y ∷ xs) (suc i) v l e h = there_behind l (local_of y) (locals_of xs) (locals_there xs i v l e h)

    local_there : (i : ℕ) (v : Variable) (l : LocalTree) → slice_get m.locals i ≡ Some v → There l (local_of v) → There (local_name l) front
    local_there i v l e h = fixed_there l (there_behind l (io_locals f 0 m.args) (locals_of m.locals) (locals_there m.locals i v l e h))

    arg_named : (i : ℕ) (v : Variable) → slice_get m.args i ≡ Some v → named f.names.args i ≡ v.name
    arg_named i v e = named_at m.args i v e

    local_named : (i : ℕ) (v : Variable) → slice_get m.locals i ≡ Some v → named f.names.locals i ≡ v.name
    local_named i v e = named_at m.locals i v e

    -- ---- the receiver

    self_found : find (λ it. bytes_eq it.name (codes "self")) T.names ≡ Some (record { kind = struct_pointer (struct_type p m.of); name = codes "self" })
    self_found = refl

    has_self : HasSelf T p m.of
    has_self = record { own = g.own; distinct = g.fields_apart; receiver = self_found }

    self_cell : (t : TypeTree) (name : List ℕ) → bytes_eq name (codes "ptr") ≡ false → There (record { kind = plain t; name = name; count = None }) (struct_fields p m.of) → Cell Settled T t (of_self name)
    self_cell t name k h = record { held = own_cell T p m.of has_self t name k h; settled = λ l e. absurd (cc e) }

    -- ---- paths

    local_cell : (i : ℕ) (name : List ℕ) (ty : Ty) (t : TypeTree) → slice_get m.locals i ≡ Some (record { name = name; ty = ty }) → in_c ty ≡ Some t → Cell Settled T t (variable (codes "v_" ++ name))
    local_cell i name (types.Num width lo hi) t e h =
        let same : uint (width_of (bits_of width)) ≡ t = cc h in
        let P : TypeTree → Type 0 = λ z. Cell Settled T z (variable (codes "v_" ++ name)) in
        subst P same (front_cell (record { kind = uint (width_of (bits_of width)); name = codes "v_" ++ name }) (local_there i (record { name = name; ty = types.Num width lo hi }) _ e (there_first _ [])))
    local_cell i name types.Flag t e h =
        let same : boolean ≡ t = cc h in
        let P : TypeTree → Type 0 = λ z. Cell Settled T z (variable (codes "v_" ++ name)) in
        subst P same (front_cell (record { kind = boolean; name = codes "v_" ++ name }) (local_there i (record { name = name; ty = types.Flag }) _ e (there_first _ [])))
    local_cell i name types.Status t e h =
        let same : text ≡ t = cc h in
        let P : TypeTree → Type 0 = λ z. Cell Settled T z (variable (codes "v_" ++ name)) in
        subst P same (front_cell (record { kind = text; name = codes "v_" ++ name }) (local_there i (record { name = name; ty = types.Status }) _ e (there_first _ [])))
    local_cell i name types.Reader t e h = absurd (cc h)
    local_cell i name types.Writer t e h = absurd (cc h)
    local_cell i name (types.Slice width) t e h = absurd (cc h)
    local_cell i name (types.Array width lo hi count) t e h = absurd (cc h)
    local_cell i name (types.Part s) t e h = absurd (cc h)

    arg_cell : (i : ℕ) (name : List ℕ) (ty : Ty) (t : TypeTree) → slice_get m.args i ≡ Some (record { name = name; ty = ty }) → may_be_arg ty ≡ true → in_c ty ≡ Some t → Cell Settled T t (variable (codes "a_" ++ name))
    arg_cell i name (types.Num width lo hi) t e a h =
        let same : uint (width_of (bits_of width)) ≡ t = cc h in
        let P : TypeTree → Type 0 = λ z. Cell Settled T z (variable (codes "a_" ++ name)) in
        subst P same (front_cell (record { kind = uint (width_of (bits_of width)); name = codes "a_" ++ name }) (arg_there i (record { name = name; ty = types.Num width lo hi }) _ e (there_first _ [])))
    arg_cell i name types.Flag t e a h =
        let same : boolean ≡ t = cc h in
        let P : TypeTree → Type 0 = λ z. Cell Settled T z (variable (codes "a_" ++ name)) in
        subst P same (front_cell (record { kind = boolean; name = codes "a_" ++ name }) (arg_there i (record { name = name; ty = types.Flag }) _ e (there_first _ [])))
    arg_cell i name types.Status t e a h = absurd (cc a)
    arg_cell i name types.Reader t e a h = absurd (cc h)
    arg_cell i name types.Writer t e a h = absurd (cc h)
    arg_cell i name (types.Slice width) t e a h = absurd (cc h)
    arg_cell i name (types.Array width lo hi count) t e a h = absurd (cc h)
    arg_cell i name (types.Part s) t e a h = absurd (cc h)

    field_cell : (i : ℕ) (name : List ℕ) (ty : Ty) (t : TypeTree) → slice_get (fields_of p m.of) i ≡ Some (record { name = name; ty = ty }) → in_c ty ≡ Some t → Cell Settled T t (of_self (codes "f_" ++ name))
    field_cell i name (types.Num width lo hi) t e h =
        let same : uint (width_of (bits_of width)) ≡ t = cc h in
        let P : TypeTree → Type 0 = λ z. Cell Settled T z (of_self (codes "f_" ++ name)) in
        subst P same (self_cell (uint (width_of (bits_of width))) (codes "f_" ++ name) refl (source_in p m.of i (record { name = name; ty = types.Num width lo hi }) e))
    field_cell i name types.Flag t e h =
        let same : boolean ≡ t = cc h in
        let P : TypeTree → Type 0 = λ z. Cell Settled T z (of_self (codes "f_" ++ name)) in
        subst P same (self_cell boolean (codes "f_" ++ name) refl (source_in p m.of i (record { name = name; ty = types.Flag }) e))
    field_cell i name types.Status t e h =
        let same : text ≡ t = cc h in
        let P : TypeTree → Type 0 = λ z. Cell Settled T z (of_self (codes "f_" ++ name)) in
        subst P same (self_cell text (codes "f_" ++ name) refl (source_in p m.of i (record { name = name; ty = types.Status }) e))
    field_cell i name types.Reader t e h = absurd (cc h)
    field_cell i name types.Writer t e h = absurd (cc h)
    field_cell i name (types.Slice width) t e h = absurd (cc h)
    field_cell i name (types.Array width lo hi count) t e h = absurd (cc h)
    field_cell i name (types.Part s) t e h = absurd (cc h)

    -- A field by its number.
    record FieldAt (i : ℕ) (ty : Ty) : Type 0 where
      name : List ℕ
      there : slice_get (fields_of p m.of) i ≡ Some (record { name = name; ty = ty })
      called : named f.names.fields i ≡ name
      allowed : may_be_field p ty ≡ true

    variable_there : (xs : List Variable) (i : ℕ) (ty : Ty) → variable_at xs i ≡ Some ty → (v : Variable) × ((slice_get xs i ≡ Some v) × (v.ty ≡ ty))
    variable_there xs i ty h = by (slice_get xs i) refl h
      where
        by : (o : Option Variable) → slice_get xs i ≡ o → option_map (λ v. v.ty) o ≡ Some ty → (v : Variable) × ((slice_get xs i ≡ Some v) × (v.ty ≡ ty))
        by None e k = absurd (cc k)
        by (Some v) e k = (v, (e, cc k))

    -- With its type written out.
    variable_of : (xs : List Variable) (i : ℕ) (ty : Ty) → variable_at xs i ≡ Some ty → (name : List ℕ) × (slice_get xs i ≡ Some (record { name = name; ty = ty }))
    variable_of xs i ty h =
        let v = variable_there xs i ty h in
        let P : Ty → Type 0 = λ z. slice_get xs i ≡ Some (record { name = v.0.name; ty = z }) in
        (v.0.name, subst P v.1.1 v.1.0)

    field_of_struct : (o : Option StructTree) → slice_get p.structs m.of ≡ o → (i : ℕ) (ty : Ty) → option_and_then (λ it. variable_at it.fields i) o ≡ Some ty → FieldAt i ty
    field_of_struct None e i ty h = absurd (cc h)
    field_of_struct (Some it) e i ty h =
        let v = variable_of it.fields i ty h in
        let P : List Variable → Type 0 = λ z. slice_get z i ≡ Some (record { name = v.0; ty = ty }) in
        let Q : List (List ℕ) → Type 0 = λ z. named z i ≡ v.0 in
        let fields : fields_of p m.of ≡ it.fields = rw e refl in
        let called_fields : f.names.fields ≡ map (λ x. x.name) it.fields = rw e refl in
        record {
          name = v.0;
          there = subst P (sym fields) v.1;
          called = subst Q (sym called_fields) (named_at it.fields i (record { name = v.0; ty = ty }) v.1);
          allowed = all_at (λ v. may_be_field p v.ty) it.fields i (record { name = v.0; ty = ty }) (g.fields_are m.of it e) v.1;
        }

    field_typed : (i : ℕ) (ty : Ty) → field_at p m.of i ≡ Some ty → FieldAt i ty
    field_typed i ty h = field_of_struct (slice_get p.structs m.of) refl i ty h

    path_cell : (path : Path) (ty : Ty) (t : TypeTree) → type_at (around f) path ≡ Some ty → in_c ty ≡ Some t → Cell Settled T t (path_code f.names path)
    path_cell (local i) ty t h k =
        let v = variable_of m.locals i ty h in
        let P : List ℕ → Type 0 = λ z. Cell Settled T t (variable (codes "v_" ++ z)) in
        subst P (sym (local_named i (record { name = v.0; ty = ty }) v.1)) (local_cell i v.0 ty t v.1 k)
    path_cell (arg i) ty t h k =
        let v = variable_of m.args i ty h in
        let P : List ℕ → Type 0 = λ z. Cell Settled T t (variable (codes "a_" ++ z)) in
        subst P (sym (arg_named i (record { name = v.0; ty = ty }) v.1)) (arg_cell i v.0 ty t v.1 (all_at (λ v. may_be_arg v.ty) m.args i (record { name = v.0; ty = ty }) g.args_are v.1) k)
    path_cell (field i) ty t h k =
        let v = field_typed i ty h in
        let P : List ℕ → Type 0 = λ z. Cell Settled T t (of_self (codes "f_" ++ z)) in
        subst P (sym v.called) (field_cell i v.name ty t v.there k)

    pub number_cell : (of : NumType) (path : Path) → is_number of (type_at (around f) path) ≡ true → NumCell Settled T (path_code f.names path)
    number_cell of path h =
        let ty = some_type (type_at (around f) path) (is_number of) h refl in
        let t = number_in_c of ty.0 ty.1.1 in
        record { type = t.0; numeric = t.1.1; cell = path_cell path ty.0 t.0 ty.1.0 t.1.0 }

    pub flag_cell : (path : Path) → is_flag (type_at (around f) path) ≡ true → NumCell Settled T (path_code f.names path)
    flag_cell path h =
        let ty = some_type (type_at (around f) path) is_flag h refl in
        record { type = boolean; numeric = refl; cell = path_cell path ty.0 boolean ty.1.0 (flag_in_c ty.0 ty.1.1) }

    pub status_cell : (path : Path) → is_status (type_at (around f) path) ≡ true → Cell Settled T text (path_code f.names path)
    status_cell path h =
        let ty = some_type (type_at (around f) path) is_status h refl in
        path_cell path ty.0 text ty.1.0 (status_in_c ty.0 ty.1.1)

    -- What a cell of numbers holds is one.
    path_num : (path : Path) → NumCell Settled T (path_code f.names path) → IsNum T (path_code f.names path)
    path_num (local i) k = variable_num T k.type (source_local f.names i) k.numeric k.cell.held
    path_num (arg i) k = variable_num T k.type (arg_name f.names i) k.numeric k.cell.held
    path_num (field i) k = member_num T k.type self (field_name f.names i) k.numeric k.cell.held

    path_text : (path : Path) → Cell Settled T text (path_code f.names path) → type_of T (path_code f.names path) ≡ Some (points_to byte)
    path_text (local i) k = ap (option_and_then held_type) k.held
    path_text (arg i) k = ap (option_and_then held_type) k.held
    path_text (field i) k = ap (option_and_then held_type) k.held

    -- ---- arrays and slices

    array_pointer : (of : NumType) (count : ℕ) (path : Path) (ty : Ty) → type_at (around f) path ≡ Some ty → is_array of count (Some ty) ≡ true → IsPointer T of.bits (path_code f.names path)
    array_pointer of count path (types.Num width lo hi) e h = absurd (cc h)
    array_pointer of count path types.Flag e h = absurd (cc h)
    array_pointer of count path types.Status e h = absurd (cc h)
    array_pointer of count path types.Reader e h = absurd (cc h)
    array_pointer of count path types.Writer e h = absurd (cc h)
    array_pointer of count path (types.Slice width) e h = absurd (cc h)
    array_pointer of count path (types.Part s) e h = absurd (cc h)
    array_pointer of count (local i) (types.Array width lo hi k) e h =
        let v = variable_of m.locals i (types.Array width lo hi k) e in
        let none : false ≡ true = all_at (λ v. may_be_local v.ty) m.locals i (record { name = v.0; ty = types.Array width lo hi k }) g.locals_are v.1 in
        absurd (cc none)
    array_pointer of count (arg i) (types.Array width lo hi k) e h =
        let v = variable_of m.args i (types.Array width lo hi k) e in
        let none : false ≡ true = all_at (λ v. may_be_arg v.ty) m.args i (record { name = v.0; ty = types.Array width lo hi k }) g.args_are v.1 in
        absurd (cc none)
    array_pointer of count (field i) (types.Array width lo hi k) e h =
        let v = field_typed i (types.Array width lo hi k) e in
        let q = both_true (nat_eq count k) (same_num_type of (record { bits = bits_of width; low = lo; high = hi })) h in
        let r = both_true (nat_eq of.bits (bits_of width)) _ q.1 in
        let same : bits_of width ≡ of.bits = grind (arith, nat_tests, r.0) in
        let P : ℕ → Type 0 = λ z. IsPointer T z (of_self (codes "f_" ++ v.name)) in
        let Q : List ℕ → Type 0 = λ z. IsPointer T of.bits (of_self (codes "f_" ++ z)) in
        let held = member_so T p m.of has_self (source_field p (record { name = v.name; ty = types.Array width lo hi k })) (source_in p m.of i (record { name = v.name; ty = types.Array width lo hi k }) v.there) in
        subst Q (sym v.called) (subst P same (ap (option_and_then held_type) held))

    record SliceCells (bits : ℕ) (pointer length : List ℕ) : Type 0 where
      pointer_cell : Cell Settled T (uint_pointer (width_of bits)) (variable pointer)
      length_cell : Cell Settled T size (variable length)

    local_slice : (i : ℕ) (bits : ℕ) (ty : Ty) → variable_at m.locals i ≡ Some ty → is_slice bits (Some ty) ≡ true → SliceCells bits (local_pointer f.names i) (local_length f.names i)
    local_slice i bits (types.Num width lo hi) e h = absurd (cc h)
    local_slice i bits types.Flag e h = absurd (cc h)
    local_slice i bits types.Status e h = absurd (cc h)
    local_slice i bits types.Reader e h = absurd (cc h)
    local_slice i bits types.Writer e h = absurd (cc h)
    local_slice i bits (types.Array width lo hi k) e h = absurd (cc h)
    local_slice i bits (types.Part s) e h = absurd (cc h)
    local_slice i bits (types.Slice width) e h =
        let v = variable_of m.locals i (types.Slice width) e in
        let x : Variable = record { name = v.0; ty = types.Slice width } in
        let same : bits_of width ≡ bits = grind (arith, nat_tests, h) in
        let P : ℕ → Type 0 = λ z. SliceCells z (codes "vp_" ++ v.0) (codes "vl_" ++ v.0) in
        let Q : List ℕ → Type 0 = λ z. SliceCells bits (codes "vp_" ++ z) (codes "vl_" ++ z) in
        subst Q (sym (local_named i x v.1)) (subst P same (record {
          pointer_cell = front_cell (record { kind = uint_pointer (width_of (bits_of width)); name = codes "vp_" ++ v.0 }) (local_there i x (record { kind = uint_pointer (width_of (bits_of width)); name = codes "vp_" ++ v.0; initial = Some (num 0) }) v.1 (0, refl));
          length_cell = front_cell (record { kind = size; name = codes "vl_" ++ v.0 }) (local_there i x (record { kind = size; name = codes "vl_" ++ v.0; initial = Some (num 0) }) v.1 (1, refl));
        }))

    arg_slice : (i : ℕ) (bits : ℕ) (ty : Ty) → variable_at m.args i ≡ Some ty → is_slice bits (Some ty) ≡ true → SliceCells bits (arg_pointer f.names i) (arg_length f.names i)
    arg_slice i bits (types.Num width lo hi) e h = absurd (cc h)
    arg_slice i bits types.Flag e h = absurd (cc h)
    arg_slice i bits types.Status e h = absurd (cc h)
    arg_slice i bits types.Reader e h = absurd (cc h)
    arg_slice i bits types.Writer e h = absurd (cc h)
    arg_slice i bits (types.Array width lo hi k) e h = absurd (cc h)
    arg_slice i bits (types.Part s) e h = absurd (cc h)
    arg_slice i bits (types.Slice width) e h =
        let v = variable_of m.args i (types.Slice width) e in
        let x : Variable = record { name = v.0; ty = types.Slice width } in
        let same : bits_of width ≡ bits = grind (arith, nat_tests, h) in
        let P : ℕ → Type 0 = λ z. SliceCells z (codes "ap_" ++ v.0) (codes "al_" ++ v.0) in
        let Q : List ℕ → Type 0 = λ z. SliceCells bits (codes "ap_" ++ z) (codes "al_" ++ z) in
        subst Q (sym (arg_named i x v.1)) (subst P same (record {
          pointer_cell = front_cell (record { kind = uint_pointer (width_of (bits_of width)); name = codes "ap_" ++ v.0 }) (arg_there i x (record { kind = uint_pointer (width_of (bits_of width)); name = codes "ap_" ++ v.0 }) v.1 (0, refl));
          length_cell = front_cell (record { kind = size; name = codes "al_" ++ v.0 }) (arg_there i x (record { kind = size; name = codes "al_" ++ v.0 }) v.1 (1, refl));
        }))

    slice_parts : (bits : ℕ) (pointer length : List ℕ) → SliceCells bits pointer length → IsPointer T bits (variable pointer) × IsNum T (variable length)
    slice_parts bits pointer length k = (ap (option_and_then held_type) k.pointer_cell.held, variable_num T size length refl k.length_cell.held)

    no_slice_field : (i bits : ℕ) (ty : Ty) → field_at p m.of i ≡ Some ty → is_slice bits (Some ty) ≡ true → ⊥
    no_slice_field i bits (types.Slice width) e h = let none : false ≡ true = (field_typed i (types.Slice width) e).allowed in cc none
    no_slice_field i bits (types.Num width lo hi) e h = cc h
    no_slice_field i bits types.Flag e h = cc h
    no_slice_field i bits types.Status e h = cc h
    no_slice_field i bits types.Reader e h = cc h
    no_slice_field i bits types.Writer e h = cc h
    no_slice_field i bits (types.Array width lo hi k) e h = cc h
    no_slice_field i bits (types.Part s) e h = cc h

    slice_pointer : (bits : ℕ) (path : Path) → is_slice bits (type_at (around f) path) ≡ true → IsPointer T bits (path_pair f.names path).pointer × IsNum T (path_pair f.names path).length.code
    slice_pointer bits (local i) h = let ty = some_type (type_at (around f) (local i)) (is_slice bits) h refl in slice_parts bits _ _ (local_slice i bits ty.0 ty.1.0 ty.1.1)
    slice_pointer bits (arg i) h = let ty = some_type (type_at (around f) (arg i)) (is_slice bits) h refl in slice_parts bits _ _ (arg_slice i bits ty.0 ty.1.0 ty.1.1)
    slice_pointer bits (field i) h = let ty = some_type (type_at (around f) (field i)) (is_slice bits) h refl in absurd (no_slice_field i bits ty.0 ty.1.0 ty.1.1)

    -- ---- names of the whole scope

    abbrev is_word_name : List ℕ → Bool
    is_word_name name = list_all is_word_byte name

    front_all : (U : List ℕ → Bool) → U (codes "self") ≡ true → ((x : List ℕ) → is_word_name x ≡ true → (U (codes "a_" ++ x) ≡ true) × ((U (codes "ap_" ++ x) ≡ true) × (U (codes "al_" ++ x) ≡ true)))
        → ((x : List ℕ) → is_word_name x ≡ true → (U (codes "p_" ++ x) ≡ true) × (U (codes "e_" ++ x) ≡ true))
        → ((x : List ℕ) → is_word_name x ≡ true → (U (codes "v_" ++ x) ≡ true) × ((U (codes "vp_" ++ x) ≡ true) × (U (codes "vl_" ++ x) ≡ true))) → list_all U (map name_of front) ≡ true
    front_all U o a q v =
        let P : List (List ℕ) → Type 0 = λ ls. list_all U ls ≡ true in
        let fixed : list_all U (labels (fixed_locals f)) ≡ true =
        subst P (sym (labels_both (io_locals f 0 m.args) (locals_of m.locals)))
        (all_both U (labels (io_locals f 0 m.args)) (labels (locals_of m.locals)) (io_all U is_word_name f 0 m.args (from_front p m) g.words.args_words q) (locals_all U is_word_name m.locals g.words.locals_words v)) in
        subst P (sym (map_both name_of (params_of p m) (map local_name (fixed_locals f)))) (both_hold (U (codes "self")) _ o (all_both U (args_labels m.args) (labels (fixed_locals f)) (args_all U is_word_name m.args g.words.args_words a) fixed))

    buffers_all : (U : List ℕ → Bool) → ((x : List ℕ) → is_word_name x ≡ true → U (codes "b_" ++ x) ≡ true) → list_all U (map name_of (map local_name (bytes_locals f 0 m.args))) ≡ true
    buffers_all U h = bytes_all U is_word_name f 0 m.args (from_front p m) g.words.args_words h

    -- A local of the C function beside the source's.
    extra_found : (l : List ℕ) (x : ParamTree) → bytes_eq (codes "self") l ≡ false
        → ((y : List ℕ) → is_word_name y ≡ true → (not (bytes_eq (codes "a_" ++ y) l) ≡ true) × ((not (bytes_eq (codes "ap_" ++ y) l) ≡ true) × (not (bytes_eq (codes "al_" ++ y) l) ≡ true)))
        → ((y : List ℕ) → is_word_name y ≡ true → (not (bytes_eq (codes "p_" ++ y) l) ≡ true) × (not (bytes_eq (codes "e_" ++ y) l) ≡ true))
        → ((y : List ℕ) → is_word_name y ≡ true → (not (bytes_eq (codes "v_" ++ y) l) ≡ true) × ((not (bytes_eq (codes "vp_" ++ y) l) ≡ true) × (not (bytes_eq (codes "vl_" ++ y) l) ≡ true)))
        → ((y : List ℕ) → is_word_name y ≡ true → not (bytes_eq (codes "b_" ++ y) l) ≡ true)
        → find (λ it. bytes_eq it.name l) (map local_name further_locals ++ map local_name resume_locals) ≡ Some x → find (λ it. bytes_eq it.name l) T.names ≡ Some x
    extra_found l x o a q v b h =
        let own_out : not (bytes_eq l l) ≡ false = rw (same_bytes l) refl in
        found_behind name_of front behind l (not_there (λ z. not (bytes_eq z l)) (map name_of front) l (front_all (λ z. not (bytes_eq z l)) (rw o refl) a q v) own_out)
        ∙ (found_behind name_of (map local_name (bytes_locals f 0 m.args)) _ l (not_there (λ z. not (bytes_eq z l)) _ l (buffers_all (λ z. not (bytes_eq z l)) b) own_out) ∙ h)

    status_found : find (λ it. bytes_eq it.name (codes "status")) T.names ≡ Some (record { kind = text; name = codes "status" })
    status_found = extra_found (codes "status") _ refl (λ y _. (refl, (refl, refl))) (λ y _. (refl, refl)) (λ y _. (refl, (refl, refl))) (λ y _. refl) refl

    got_found : find (λ it. bytes_eq it.name (codes "got")) T.names ≡ Some (record { kind = uint U64; name = codes "got" })
    got_found = extra_found (codes "got") _ refl (λ y _. (refl, (refl, refl))) (λ y _. (refl, refl)) (λ y _. (refl, (refl, refl))) (λ y _. refl) refl

    size_found : find (λ it. bytes_eq it.name (codes "size")) T.names ≡ Some (record { kind = size; name = codes "size" })
    size_found = extra_found (codes "size") _ refl (λ y _. (refl, (refl, refl))) (λ y _. (refl, refl)) (λ y _. (refl, (refl, refl))) (λ y _. refl) refl

    held_found : find (λ it. bytes_eq it.name (codes "held")) T.names ≡ Some (record { kind = uint U64; name = codes "held" })
    held_found = extra_found (codes "held") _ refl (λ y _. (refl, (refl, refl))) (λ y _. (refl, refl)) (λ y _. (refl, (refl, refl))) (λ y _. refl) refl

    count_found : find (λ it. bytes_eq it.name (codes "count")) T.names ≡ Some (record { kind = uint U8; name = codes "count" })
    count_found = extra_found (codes "count") _ refl (λ y _. (refl, (refl, refl))) (λ y _. (refl, refl)) (λ y _. (refl, (refl, refl))) (λ y _. refl) refl

    pub resume_found : is_coroutine m.mark ≡ true → find (λ it. bytes_eq it.name (codes "resume")) T.names ≡ Some (record { kind = uint U16; name = codes "resume" })
    resume_found e = extra_found (codes "resume") _ refl (λ y _. (refl, (refl, refl))) (λ y _. (refl, refl)) (λ y _. (refl, (refl, refl))) (λ y _. refl) (rw e refl)

    no_status_name : (k : ℕ) → find (λ it. bytes_eq it.name (status_name k)) T.names ≡ None
    no_status_name k =
        let U : List ℕ → Bool = λ z. not (begins (codes "status_") z) in
        let P : List (List ℕ) → Type 0 = λ ls. list_all U ls ≡ true in
        let last : list_all U (map name_of (map local_name further_locals ++ map local_name resume_locals)) ≡ true =
        subst P (sym (map_both name_of (map local_name further_locals) (map local_name resume_locals))) (all_both U (labels further_locals) (map name_of (map local_name resume_locals)) refl (resumes (is_coroutine m.mark))) in
        let rest : list_all U (map name_of behind) ≡ true =
        subst P (sym (map_both name_of (map local_name (bytes_locals f 0 m.args)) _)) (all_both U (map name_of (map local_name (bytes_locals f 0 m.args))) (map name_of (map local_name further_locals ++ map local_name resume_locals)) (buffers_all U (λ x _. refl)) last) in
        let all : list_all U (map name_of T.names) ≡ true =
        subst P (sym (map_both name_of front behind)) (all_both U (map name_of front) (map name_of behind) (front_all U refl (λ x _. (refl, (refl, refl))) (λ x _. (refl, refl)) (λ x _. (refl, (refl, refl)))) rest) in
        found_none name_of T.names (status_name k) (not_there U (map name_of T.names) (status_name k) all refl)
      where
        resumes : (b : Bool) → list_all (λ z. not (begins (codes "status_") z)) (map name_of (map local_name (if b then resume_of m ∷ [] else []))) ≡ true
        resumes true = refl
        resumes false = refl

    -- ---- buffers

    abbrev place_local : ℕ → Ty → LocalTree
    place_local i ty = record { kind = size; name = io_place f.names i; initial = Some (place_in (io_code f.names i) ty) }

    abbrev end_local : ℕ → Ty → LocalTree
    end_local i ty = record { kind = size; name = io_end f.names i; initial = Some (end_of (io_code f.names i) ty) }

    abbrev pointer_local : ℕ → LocalTree
    pointer_local i = record { kind = uint_pointer U8; name = io_bytes f.names i; initial = Some (member (io_code f.names i) (codes "ptr")) }

    io_there : (xs : List Variable) (k i j : ℕ) (v : Variable) → slice_get xs i ≡ Some v → is_io v.ty ≡ true → j ≡ k + i → There (place_local j v.ty) (io_locals f k xs) × There (end_local j v.ty) (io_locals f k xs)
    io_there [] k i j v e h s = absurd (cc e)
    io_there (y ∷ xs) k zero j v e h s =
        let same : y ≡ v = cc e in
        let number : k ≡ j = omega (arith, s) in
        let P : Variable → Type 0 = λ z. There (place_local k v.ty) (if is_io z.ty then place_local k z.ty ∷ end_local k z.ty ∷ io_locals f (suc k) xs else io_locals f (suc k) xs) × There (end_local k v.ty) (if is_io z.ty then place_local k z.ty ∷ end_local k z.ty ∷ io_locals f (suc k) xs else io_locals f (suc k) xs) in
        let Q : ℕ → Type 0 = λ z. There (place_local z v.ty) (io_locals f k (y ∷ xs)) × There (end_local z v.ty) (io_locals f k (y ∷ xs)) in
        subst Q number (subst P (sym same) (rw h ((0, refl), (1, refl))))
    io_there (y ∷ xs) k (suc i) j v e h s = by (is_io y.ty) (io_there xs (suc k) i j v e h (omega (arith, s)))
      where
        by : (b : Bool) → There (place_local j v.ty) (io_locals f (suc k) xs) × There (end_local j v.ty) (io_locals f (suc k) xs)
            → There (place_local j v.ty) (if b then place_local k y.ty ∷ end_local k y.ty ∷ io_locals f (suc k) xs else io_locals f (suc k) xs) × There (end_local j v.ty) (if b then place_local k y.ty ∷ end_local k y.ty ∷ io_locals f (suc k) xs else io_locals f (suc k) xs)
        by true t = (
          there_later (place_local j v.ty) (place_local k y.ty) (end_local k y.ty ∷ io_locals f (suc k) xs) (there_later (place_local j v.ty) (end_local k y.ty) (io_locals f (suc k) xs) t.0),
          there_later (end_local j v.ty) (place_local k y.ty) (end_local k y.ty ∷ io_locals f (suc k) xs) (there_later (end_local j v.ty) (end_local k y.ty) (io_locals f (suc k) xs) t.1),
        )
        by false t = t

    pointer_there : (xs : List Variable) (k i j : ℕ) (v : Variable) → slice_get xs i ≡ Some v → is_io v.ty ≡ true → j ≡ k + i → There (pointer_local j) (bytes_locals f k xs)
    pointer_there [] k i j v e h s = absurd (cc e)
    pointer_there (y ∷ xs) k zero j v e h s =
        let same : y ≡ v = cc e in
        let number : k ≡ j = omega (arith, s) in
        let P : Variable → Type 0 = λ z. There (pointer_local k) (if is_io z.ty then pointer_local k ∷ bytes_locals f (suc k) xs else bytes_locals f (suc k) xs) in
        let Q : ℕ → Type 0 = λ z. There (pointer_local z) (bytes_locals f k (y ∷ xs)) in
        subst Q number (subst P (sym same) (rw h (0, refl)))
    pointer_there (y ∷ xs) k (suc i) j v e h s = by (is_io y.ty) (pointer_there xs (suc k) i j v e h (omega (arith, s)))
      where
        by : (b : Bool) → There (pointer_local j) (bytes_locals f (suc k) xs) → There (pointer_local j) (if b then pointer_local k ∷ bytes_locals f (suc k) xs else bytes_locals f (suc k) xs)
        by true t = there_later (pointer_local j) (pointer_local k) (bytes_locals f (suc k) xs) t
        by false t = t

    buffer_place : (i : ℕ) (v : Variable) → slice_get m.args i ≡ Some v → is_io v.ty ≡ true → Cell Settled T size (place_code f.names i)
    buffer_place i v e h =
        front_cell (record { kind = size; name = io_place f.names i }) (fixed_there (place_local i v.ty) (there_front (place_local i v.ty) (io_locals f 0 m.args) (locals_of m.locals) (io_there m.args 0 i i v e h (omega arith)).0))

    buffer_end : (i : ℕ) (v : Variable) → slice_get m.args i ≡ Some v → is_io v.ty ≡ true → Cell Settled T size (end_code f.names i)
    buffer_end i v e h =
        front_cell (record { kind = size; name = io_end f.names i }) (fixed_there (end_local i v.ty) (there_front (end_local i v.ty) (io_locals f 0 m.args) (locals_of m.locals) (io_there m.args 0 i i v e h (omega arith)).1))

    buffer_bytes : (i : ℕ) (v : Variable) → slice_get m.args i ≡ Some v → is_io v.ty ≡ true → IsPointer T 8 (bytes_code f.names i)
    buffer_bytes i v e h =
        let x : ParamTree = record { kind = uint_pointer U8; name = io_bytes f.names i } in
        let out = not_there (λ z. not (begins (codes "b") z)) (map name_of front) x.name (front_all (λ z. not (begins (codes "b") z)) refl (λ y _. (refl, (refl, refl))) (λ y _. (refl, refl)) (λ y _. (refl, (refl, refl)))) refl in
        let there = there_map local_name (pointer_local i) (bytes_locals f 0 m.args) (pointer_there m.args 0 i i v e h (omega arith)) in
        let own_found = there_found name_of (map local_name (bytes_locals f 0 m.args)) x (bytes_distinct f 0 m.args (from_front p m) g.words.args_apart) there in
        name_type T x (found_behind name_of front behind x.name out ∙ found_front name_of (map local_name (bytes_locals f 0 m.args)) _ x.name x own_found)

    -- The pointer to the buffer.
    buffer_type : (i : ℕ) (name : List ℕ) (ty : Ty) → slice_get m.args i ≡ Some (record { name = name; ty = ty }) → is_io ty ≡ true → type_of T (variable (codes "a_" ++ name)) ≡ Some (points_to (object io_buffer))
    buffer_type i name types.Reader e h = name_type T (record { kind = struct_pointer io_buffer; name = codes "a_" ++ name }) (lookup (record { kind = struct_pointer io_buffer; name = codes "a_" ++ name }) (arg_there i (record { name = name; ty = types.Reader }) (record { kind = struct_pointer io_buffer; name = codes "a_" ++ name }) e (0, refl)))
    buffer_type i name types.Writer e h = name_type T (record { kind = struct_pointer io_buffer; name = codes "a_" ++ name }) (lookup (record { kind = struct_pointer io_buffer; name = codes "a_" ++ name }) (arg_there i (record { name = name; ty = types.Writer }) (record { kind = struct_pointer io_buffer; name = codes "a_" ++ name }) e (0, refl)))
    buffer_type i name (types.Num width lo hi) e h = absurd (cc h)
    buffer_type i name types.Flag e h = absurd (cc h)
    buffer_type i name types.Status e h = absurd (cc h)
    buffer_type i name (types.Slice width) e h = absurd (cc h)
    buffer_type i name (types.Array width lo hi k) e h = absurd (cc h)
    buffer_type i name (types.Part s) e h = absurd (cc h)

    io_type : (i : ℕ) (v : Variable) → slice_get m.args i ≡ Some v → is_io v.ty ≡ true → type_of T (io_code f.names i) ≡ Some (points_to (object io_buffer))
    io_type i v e h =
        let P : List ℕ → Type 0 = λ z. type_of T (variable (codes "a_" ++ z)) ≡ Some (points_to (object io_buffer)) in
        subst P (sym (arg_named i v e)) (buffer_type i v.name v.ty e h)

    buffer_of : (i : ℕ) (v : Variable) → slice_get m.args i ≡ Some v → is_io v.ty ≡ true → IsBuffer T f.names i
    buffer_of i v e h =
        let t = io_type i v e h in
        record {
          place = variable_num T size (io_place f.names i) refl (buffer_place i v e h).held;
          end = variable_num T size (io_end f.names i) refl (buffer_end i v e h).held;
          position = member_num T (uint U64) (io_code f.names i) (codes "pos") refl (io_position T g.io (io_code f.names i) t);
          closed = member_num T boolean (io_code f.names i) (codes "closed") refl (io_closed T g.io (io_code f.names i) t);
        }

    arg_buffer : (i : ℕ) (test : Option Ty → Bool) → test (type_at (around f) (arg i)) ≡ true → test None ≡ false → ((ty : Ty) → test (Some ty) ≡ true → is_io ty ≡ true) → IsBuffer T f.names i
    arg_buffer i test h n every =
        let ty = some_type (type_at (around f) (arg i)) test h n in
        let v = variable_of m.args i ty.0 ty.1.0 in
        buffer_of i (record { name = v.0; ty = ty.0 }) v.1 (every ty.0 ty.1.1)

    arg_bytes : (i : ℕ) → is_reader (type_at (around f) (arg i)) ≡ true → IsPointer T 8 (bytes_code f.names i)
    arg_bytes i h =
        let ty = some_type (type_at (around f) (arg i)) is_reader h refl in
        let v = variable_of m.args i ty.0 ty.1.0 in
        buffer_bytes i (record { name = v.0; ty = ty.0 }) v.1 (reader_is_io ty.0 ty.1.1)

    pub declares : Declares T (around f) f.names all_helpers (known_status (around f)) all_bytes
    declares = record {
      numbers = λ of path h. path_num path (number_cell of path h);
      flags = λ path h. path_num path (flag_cell path h);
      statuses = λ path h. path_text path (status_cell path h);
      slices = slice_pointer;
      arrays = λ of count path h. (let ty = some_type (type_at (around f) path) (is_array of count) h refl in array_pointer of count path ty.0 ty.1.0 ty.1.1);
      readers = λ a h. arg_buffer a is_reader h refl reader_is_io;
      writers = λ a h. arg_buffer a is_writer h refl writer_is_io;
      bytes = λ a h r. arg_bytes a h;
      constants = λ k h. constant_text T p.statuses refl g.few k h (no_status_name k);
      calls = λ sum bits x y w h j. saturated_num T fs refl sum bits x y w h j;
    }

    -- ---- what a coroutine keeps

    coroutine_there : (x : FieldTree) → is_coroutine m.mark ≡ true → There x (record { kind = plain (uint U16); name = point_field m.name; count = None } ∷ kept_fields m.name m.locals ++ started_fields m) → There x (struct_fields p m.of)
    coroutine_there x e h = method_in p n m x g.is (by (is_coroutine m.mark) e)
      where
        by : (b : Bool) → b ≡ true → There x (if b then record { kind = plain (uint U16); name = point_field m.name; count = None } ∷ kept_fields m.name m.locals ++ started_fields m else [])
        by true k = h
        by false k = absurd (cc k)

    point_cell : is_coroutine m.mark ≡ true → NumCell Settled T (of_self (point_field m.name))
    point_cell e = record { type = uint U16; numeric = refl; cell = self_cell (uint U16) (point_field m.name) refl (coroutine_there (record { kind = plain (uint U16); name = point_field m.name; count = None }) e (0, refl)) }

    started_there : (x : FieldTree) → is_coroutine m.mark ≡ true → There x (started_fields m) → There x (struct_fields p m.of)
    started_there x e h = coroutine_there x e (there_later x (record { kind = plain (uint U16); name = point_field m.name; count = None }) (kept_fields m.name m.locals ++ started_fields m) (there_behind x (kept_fields m.name m.locals) (started_fields m) h))

    held_cell : is_coroutine m.mark ≡ true → keeps holds_something m.body ≡ true → NumCell Settled T (of_self (held_field m.name))
    held_cell e k =
        let x : FieldTree = record { kind = plain (uint U64); name = held_field m.name; count = None } in
        record { type = uint U64; numeric = refl; cell = self_cell (uint U64) (held_field m.name) refl (started_there x e (by (keeps holds_something m.body) k)) }
      where
        by : (b : Bool) → b ≡ true → There {X = FieldTree} (record { kind = plain (uint U64); name = held_field m.name; count = None })
            ((if b then record { kind = plain (uint U64); name = held_field m.name; count = None } ∷ [] else []) ++ (if keeps counts_bytes m.body then record { kind = plain (uint U8); name = count_field m.name; count = None } ∷ [] else []))
        by true h = (0, refl)
        by false h = absurd (cc h)

    count_cell : is_coroutine m.mark ≡ true → keeps counts_bytes m.body ≡ true → NumCell Settled T (of_self (count_field m.name))
    count_cell e k =
        let x : FieldTree = record { kind = plain (uint U8); name = count_field m.name; count = None } in
        record {
          type = uint U8;
          numeric = refl;
          cell = self_cell (uint U8) (count_field m.name) refl
              (started_there x e (there_behind x (if keeps holds_something m.body then record { kind = plain (uint U64); name = held_field m.name; count = None } ∷ [] else []) (if keeps counts_bytes m.body then record { kind = plain (uint U8); name = count_field m.name; count = None } ∷ [] else []) (by (keeps counts_bytes m.body) k)));
        }
      where
        by : (b : Bool) → b ≡ true → There {X = FieldTree} (record { kind = plain (uint U8); name = count_field m.name; count = None }) (if b then record { kind = plain (uint U8); name = count_field m.name; count = None } ∷ [] else [])
        by true h = (0, refl)
        by false h = absurd (cc h)

    kept_there : (xs : List Variable) (i : ℕ) (v : Variable) → slice_get xs i ≡ Some v → is_kept v.ty ≡ true → There (record { kind = plain (kept_type v.ty); name = saved_field m.name v.name; count = None }) (kept_fields m.name xs)
    kept_there [] i v e h = absurd (cc e)
    kept_there (y ∷ xs) zero v e h =
        let same : y ≡ v = cc e in
        let P : Variable → Type 0 = λ z. There (record { kind = plain (kept_type v.ty); name = saved_field m.name v.name; count = None }) (if is_kept z.ty then record { kind = plain (kept_type z.ty); name = saved_field m.name z.name; count = None } ∷ kept_fields m.name xs else kept_fields m.name xs) in
        subst P (sym same) (rw h (0, refl))
    kept_there (y ∷ xs) (suc i) v e h = by (is_kept y.ty) (kept_there xs i v e h)
      where
        by : (b : Bool) → There {X = FieldTree} (record { kind = plain (kept_type v.ty); name = saved_field m.name v.name; count = None }) (kept_fields m.name xs)
            → There (record { kind = plain (kept_type v.ty); name = saved_field m.name v.name; count = None }) (if b then record { kind = plain (kept_type y.ty); name = saved_field m.name y.name; count = None } ∷ kept_fields m.name xs else kept_fields m.name xs)
        by true t = there_later (record { kind = plain (kept_type v.ty); name = saved_field m.name v.name; count = None }) (record { kind = plain (kept_type y.ty); name = saved_field m.name y.name; count = None }) (kept_fields m.name xs) t
        by false t = t

    kept_cells : (i : ℕ) (name : List ℕ) (ty : Ty) → slice_get m.locals i ≡ Some (record { name = name; ty = ty }) → may_be_local ty ≡ true → is_kept ty ≡ true → is_coroutine m.mark ≡ true → KeptCells c f Settled MayBeCalled (record { name = name; ty = ty })
    kept_cells i name ty e a k co = by ty e a k
      where
        saved : (ty : Ty) → slice_get m.locals i ≡ Some (record { name = name; ty = ty }) → is_kept ty ≡ true → Cell Settled T (kept_type ty) (of_self (saved_field m.name name))
        saved ty e k =
            let x : FieldTree = record { kind = plain (kept_type ty); name = saved_field m.name name; count = None } in
            self_cell (kept_type ty) (saved_field m.name name) refl
            (coroutine_there x co (there_later x (record { kind = plain (uint U16); name = point_field m.name; count = None }) (kept_fields m.name m.locals ++ started_fields m) (there_front x (kept_fields m.name m.locals) (started_fields m) (kept_there m.locals i (record { name = name; ty = ty }) e k))))

        made : (ty : Ty) (t : TypeTree) → kept_type ty ≡ t → in_c ty ≡ Some t → assignable t (value_type t) ≡ true → slice_get m.locals i ≡ Some (record { name = name; ty = ty }) → is_kept ty ≡ true → KeptCells c f Settled MayBeCalled (record { name = name; ty = ty })
        made ty t s h w e k =
            let P : TypeTree → Type 0 = λ z. Cell Settled T z (of_self (saved_field m.name name)) in
            let one_cell = subst P s (saved ty e k) in
            let other = local_cell i name ty t e h in
            record {
              type = t;
              saved = one_cell;
              own = other;
              saved_fits = held_fits T t (of_self (saved_field m.name name)) (ap (option_and_then held_type) one_cell.held) w;
              own_fits = held_fits T t (variable (codes "v_" ++ name)) (ap (option_and_then held_type) other.held) w;
            }

        by : (ty : Ty) → slice_get m.locals i ≡ Some (record { name = name; ty = ty }) → may_be_local ty ≡ true → is_kept ty ≡ true → KeptCells c f Settled MayBeCalled (record { name = name; ty = ty })
        by (types.Num width lo hi) e a k = made (types.Num width lo hi) (uint (width_of (bits_of width))) refl refl refl e k
        by types.Flag e a k = made types.Flag boolean refl refl refl e k
        by types.Status e a k = made types.Status text refl refl refl e k
        by (types.Slice width) e a k = absurd (cc k)
        by types.Reader e a k = absurd (cc a)
        by types.Writer e a k = absurd (cc a)
        by (types.Array width lo hi count) e a k = absurd (cc a)
        by (types.Part s) e a k = absurd (cc a)

    all_kept : (xs : List Variable) (k : ℕ) → ((i : ℕ) (v : Variable) → slice_get xs i ≡ Some v → slice_get m.locals (k + i) ≡ Some v) → AllByRecursion (Kept c f Settled MayBeCalled) xs
    all_kept [] k h = tt
    all_kept (v ∷ xs) k h = (
      (λ t co. let e = here in kept_cells k v.name v.ty e (all_at (λ v. may_be_local v.ty) m.locals k v g.locals_are e) t co),
      all_kept xs (suc k) (λ i y e. let same : k + suc i ≡ suc k + i = omega arith in let P : ℕ → Type 0 = λ z. slice_get m.locals z ≡ Some y in subst P same (h (suc i) y e)),
    )
      where
        here : slice_get m.locals k ≡ Some v
        here = let same : k + 0 ≡ k = omega arith in let P : ℕ → Type 0 = λ z. slice_get m.locals z ≡ Some v in subst P same (h 0 v refl)

    -- ---- readers and writers, and calls

    io_cells : (i : ℕ) (v : Variable) → slice_get m.args i ≡ Some v → is_io v.ty ≡ true → IoCells c f Settled MayBeCalled i v.ty
    io_cells i v e h =
        let t = io_type i v e h in
        let places = in_buffer v.ty h in
        record {
          place = record { type = size; numeric = refl; cell = buffer_place i v e h };
          end = record { type = size; numeric = refl; cell = buffer_end i v e h };
          field = places.0 t;
          field_num = places.1.0 t;
          limit = places.1.1 t;
          pointer = t;
          bytes = buffer_bytes i v e h;
        }
      where
        cell_of : (name : List ℕ) → held_of T (member (io_code f.names i) name) ≡ Some (one size) → NumCell Settled T (member (io_code f.names i) name)
        cell_of name k = record { type = size; numeric = refl; cell = record { held = k; settled = λ l q. absurd (cc q) } }

        in_buffer : (ty : Ty) → is_io ty ≡ true
            → (type_of T (io_code f.names i) ≡ Some (points_to (object io_buffer)) → NumCell Settled T (place_in (io_code f.names i) ty))
            × ((type_of T (io_code f.names i) ≡ Some (points_to (object io_buffer)) → IsNum T (place_in (io_code f.names i) ty)) × (type_of T (io_code f.names i) ≡ Some (points_to (object io_buffer)) → IsNum T (end_of (io_code f.names i) ty)))
        in_buffer types.Reader k = (
          (λ t. cell_of (codes "ri") (io_read T g.io (io_code f.names i) t)),
          ((λ t. member_num T size (io_code f.names i) (codes "ri") refl (io_read T g.io (io_code f.names i) t)), (λ t. member_num T size (io_code f.names i) (codes "wi") refl (io_written T g.io (io_code f.names i) t))),
        )
        in_buffer types.Writer k = (
          (λ t. cell_of (codes "wi") (io_written T g.io (io_code f.names i) t)),
          (
            (λ t. member_num T size (io_code f.names i) (codes "wi") refl (io_written T g.io (io_code f.names i) t)),
            (λ t. io_limit T g.io (io_code f.names i) t),
          ),
        )
        in_buffer types.Flag k = absurd (cc k)
        in_buffer types.Status k = absurd (cc k)
        in_buffer (types.Num width lo hi) k = absurd (cc k)
        in_buffer (types.Slice width) k = absurd (cc k)
        in_buffer (types.Array width lo hi count) k = absurd (cc k)
        in_buffer (types.Part s) k = absurd (cc k)

    -- Functions that stand before it.
    pub record FoundAs (name : List ℕ) (callee : MethodTree) : Type 0 where
      pub function : Function
      pub there : function_named fs name ≡ Some function
      pub params : function.params ≡ params_of p callee
      pub result : function.result_type ≡ result_of callee

    helpers_out : (name : List ℕ) → begins (codes "sat_") name ≡ false → is_among (map (λ (h : Function). h.name) (functions_of all_saturating)) name ≡ false
    helpers_out name h = not_there (begins (codes "sat_")) (map (λ (h : Function). h.name) (functions_of all_saturating)) name refl h

    found_function : (name : List ℕ) (callee : MethodTree) → begins (codes "sat_") name ≡ false → (k : FoundAs name callee) → function_named T.functions name ≡ Some k.function
    found_function name callee h k = found_behind (λ (h : Function). h.name) (functions_of all_saturating) fs name (helpers_out name h) ∙ k.there

    part_type : (i : ℕ) (callee : MethodTree) → is_some (option_and_then (λ s. if nat_eq s callee.of then Some s else None) (struct_of_field (field_at p m.of i))) ≡ true
        → type_of T (unary Address (of_self (field_name f.names i))) ≡ Some (points_to (object (struct_type p callee.of)))
    part_type i callee h = by (field_at p m.of i) refl h
      where
        other : (ty : Ty) → field_at p m.of i ≡ Some ty → is_some (option_and_then (λ s. if nat_eq s callee.of then Some s else None) (struct_of_field (Some ty))) ≡ true → type_of T (unary Address (of_self (field_name f.names i))) ≡ Some (points_to (object (struct_type p callee.of)))
        other (types.Part s) e k = same (nat_eq s.0 callee.of) refl k
          where
            same : (b : Bool) → nat_eq s.0 callee.of ≡ b → is_some (if b then Some s.0 else None) ≡ true → type_of T (unary Address (of_self (field_name f.names i))) ≡ Some (points_to (object (struct_type p callee.of)))
            same false q k = absurd (cc k)
            same true q k =
                let v = field_typed i (types.Part s) e in
                let number : s.0 ≡ callee.of = grind (arith, nat_tests, q) in
                let x : Variable = record { name = v.name; ty = types.Part s } in
                let held = member_so T p m.of has_self (source_field p x) (source_in p m.of i x v.there) in
                let P : List ℕ → Type 0 = λ z. type_of T (unary Address (of_self (codes "f_" ++ z))) ≡ Some (points_to (object (struct_type p callee.of))) in
                let Q : ℕ → Type 0 = λ z. type_of T (unary Address (of_self (codes "f_" ++ v.name))) ≡ Some (points_to (object (struct_type p z))) in
                subst P (sym v.called) (subst Q number (ap (option_and_then address_type) held))
        other types.Flag e k = absurd (cc k)
        other types.Status e k = absurd (cc k)
        other types.Reader e k = absurd (cc k)
        other types.Writer e k = absurd (cc k)
        other (types.Num width lo hi) e k = absurd (cc k)
        other (types.Slice width) e k = absurd (cc k)
        other (types.Array width lo hi count) e k = absurd (cc k)

        by : (o : Option Ty) → field_at p m.of i ≡ o → is_some (option_and_then (λ s. if nat_eq s callee.of then Some s else None) (struct_of_field o)) ≡ true → type_of T (unary Address (of_self (field_name f.names i))) ≡ Some (points_to (object (struct_type p callee.of)))
        by None e k = absurd (cc k)
        by (Some ty) e k = other ty e k

    module _ (methods_are : (j : ℕ) (callee : MethodTree) → slice_get p.methods j ≡ Some callee → well_method p callee ≡ true)
        (bodies : (j : ℕ) (callee : MethodTree) → known j ≡ true → slice_get p.methods j ≡ Some callee → FoundAs (body_name p callee) callee)
        (entries : (j : ℕ) (callee : MethodTree) → known j ≡ true → slice_get p.methods j ≡ Some callee → callee.public ≡ true → FoundAs (entry_name p callee) callee)
        (base : (k : ℕ) → k < 10 → is_some (slice_get p.statuses k) ≡ true)
        (held_read : is_coroutine m.mark ≡ true → keeps holds_something m.body ≡ true → code_reads (codes "held") (body_code f) ≡ true)
        (count_read : is_coroutine m.mark ≡ true → keeps counts_bytes m.body ≡ true → code_reads (codes "count") (body_code f) ≡ true) where
      callable_made : (called : Called) (callee : MethodTree) → (k : FoundAs (callee_name p called callee) callee) → begins (codes "sat_") (callee_name p called callee) ≡ false → callee_of (callee_name p called callee) ≡ own_function
          → well_method p callee ≡ true → type_of T (receiver_code f.names called) ≡ Some (points_to (object (struct_type p callee.of))) → Callable c f Settled MayBeCalled called callee
      callable_made called callee k out is_own w r =
          let a = (both_true (nat_lt callee.of (length p.structs)) _ w).1 in
          let b = both_true (list_all (λ x. may_be_arg x.ty) callee.args) _ a in
          let d = both_true (list_all (λ x. may_be_local x.ty) callee.locals) _ b.1 in
          let e = both_true (may_be_result callee.mark callee.gives) _ d.1 in
          record {
            function = k.function;
            found = found_function (callee_name p called callee) callee out k;
            params = k.params;
            result = k.result;
            args_are = b.0;
            result_is = e.0;
            is_own = is_own;
            receiver = r;
            ok = (out, inl is_own);
          }

      callable_of : (called : Called) (callee : MethodTree) → slice_get p.methods (number_of called) ≡ Some callee → calls_method (around f) called callee ≡ true → known (number_of called) ≡ true → Callable c f Settled MayBeCalled called callee
      callable_of (own j) callee e h k =
          let same : callee.of ≡ m.of = grind (arith, nat_tests, h) in
          let P : ℕ → Type 0 = λ z. type_of T self ≡ Some (points_to (object (struct_type p z))) in
          callable_made (own j) callee (bodies j callee k e) refl refl (methods_are j callee e) (subst P (sym same) (self_type T p m.of has_self))
      callable_of (sub i j) callee e h k =
          let q = both_true callee.public _ h in
          callable_made (sub i j) callee (entries j callee k e q.0) refl refl (methods_are j callee e) (part_type i callee q.1)

      pub serves : Serves c f Settled MayBeCalled known
      serves = record {
        declares = declares;
        base = λ k h. base k (few_base k h);
        numbers = λ of path w h. number_cell of path h;
        flags = λ path w h. flag_cell path h;
        statuses = λ path w h. status_cell path h;
        pointers = λ bits i h. (let ty = some_type (type_at (around f) (local i)) (is_slice bits) h refl in (local_slice i bits ty.0 ty.1.0 ty.1.1).pointer_cell);
        lengths = λ bits i h. (let ty = some_type (type_at (around f) (local i)) (is_slice bits) h refl in record { type = size; numeric = refl; cell = (local_slice i bits ty.0 ty.1.0 ty.1.1).length_cell });
        buffers = io_cells;
        kept = all_kept m.locals 0 (λ i v e. let same : i ≡ 0 + i = omega arith in let P : ℕ → Type 0 = λ z. slice_get m.locals z ≡ Some v in subst P same e);
        point = point_cell;
        held_kept = held_cell;
        count_kept = count_cell;
        status_held = name_held T (record { kind = text; name = codes "status" }) status_found;
        got_held = name_held T (record { kind = uint U64; name = codes "got" }) got_found;
        size_held = name_held T (record { kind = size; name = codes "size" }) size_found;
        held_held = name_held T (record { kind = uint U64; name = codes "held" }) held_found;
        count_held = name_held T (record { kind = uint U8; name = codes "count" }) count_found;
        held_settled = λ e k. inr (held_read e k);
        count_settled = λ e k. inr (count_read e k);
        callable = callable_of;
        result = refl;
        moves = (refl, inr refl);
      }
        where
          few_base : (k : ℕ) → (k ≡ short_read) ⊎ ((k ≡ short_write) ⊎ (k ≡ cannot_suspend)) → k < 10
          few_base k (inl e) = omega (arith, e)
          few_base k (inr (inl e)) = omega (arith, e)
          few_base k (inr (inr e)) = omega (arith, e)
