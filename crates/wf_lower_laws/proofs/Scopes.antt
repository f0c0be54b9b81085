-- The scope of a method's functions: what its names stand for.
use Rattle.std.proofs.Common.{◌≡◌, ℕ, zero, suc, Bool, true, false, ◌&&◌, List, [], ◌∷◌, ◌++◌, Some, None, nat_eq, refl, sym, ap, ◌∙◌, subst, arith}
use Rattle.std.specs.Prelude.{if◌then◌else◌, find, slice_get, bytes_eq, codes, option_map, option_and_then}
use Rattle.std.proofs.lemmas.Bool.Decides.{nat_tests}
use Rattle.wf_ast.specs.TypedPackage.{Variable, MethodTree, PackageTree}
use Rattle.wf_meaning.specs.SourceState.{fields_of}
use Rattle.c_text.specs.declared.kinds.CUint.TheVariants.{U8, U32, U64}
use Rattle.wf_num.specs.declared.c_arithmetic.CTy.TheVariants as ctys
use Rattle.c_text.specs.CTree.{TypeTree, uint, size, boolean, uint_pointer, struct_pointer, ExprTree, variable, member, choice, plain, FieldTree, ParamTree}
use Rattle.c_meaning.specs.CTypes.{CScope, struct_named, points_to, cell, object, one, held_type, cell_held, field_held, value_type, member_held, field_of, type_of, held_of, io_buffer, numbers}
use Rattle.c_meaning.specs.UnitForm.{all_distinct}
use Rattle.wf_exprs.specs.Names.{struct_type}
use Rattle.wf_exprs.specs.Words.{self, of_self}
use Rattle.wf_lower.specs.Unit.{struct_fields, source_field, source_fields, methods_fields, coroutine_fields}
use Rattle.wf_lower_laws.specs.KindLaw.{IsNum}
use Rattle.wf_lower_laws.proofs.Finding.{There, there_later, there_front, there_behind, there_found}
use Rattle.wf_lower_laws.proofs.FieldNames.{labels}

none_false : (b : Bool) → (b && false) ≡ false
none_false true = refl
none_false false = refl

abbrev pub io_fields : List FieldTree
io_fields =
    record { kind = plain (uint_pointer U8); name = codes "ptr"; count = None } ∷ record { kind = plain size; name = codes "len"; count = None } ∷ record { kind = plain size; name = codes "wi"; count = None }
    ∷ record { kind = plain size; name = codes "ri"; count = None } ∷ record { kind = plain (uint U64); name = codes "pos"; count = None } ∷ record { kind = plain boolean; name = codes "closed"; count = None } ∷ []

abbrev pub name_of : ParamTree → List ℕ
name_of it = it.name

-- ---- names, buffers and the receiver's fields

module _ (S : CScope) where
  pub name_held : (x : ParamTree) → find (λ it. bytes_eq it.name x.name) S.names ≡ Some x → held_of S (variable x.name) ≡ Some (one x.kind)
  name_held x h = rw h refl

  pub name_type : (x : ParamTree) → find (λ it. bytes_eq it.name x.name) S.names ≡ Some x → type_of S (variable x.name) ≡ Some (value_type x.kind)
  name_type x h = ap (option_and_then held_type) (name_held x h)

  -- Members of a reader or writer.
  module _ (io : struct_named S.structs io_buffer ≡ Some (record { fields = io_fields; name = io_buffer })) (e : ExprTree) (h : type_of S e ≡ Some (points_to (object io_buffer))) where
    pub io_written : held_of S (member e (codes "wi")) ≡ Some (one size)
    io_written = rw (h, io) refl

    pub io_read : held_of S (member e (codes "ri")) ≡ Some (one size)
    io_read = rw (h, io) refl

    pub io_position : held_of S (member e (codes "pos")) ≡ Some (one (uint U64))
    io_position = rw (h, io) refl

    pub io_closed : held_of S (member e (codes "closed")) ≡ Some (one boolean)
    io_closed = rw (h, io) refl

    pub io_limit : IsNum S (choice (member e (codes "closed")) (member e (codes "wi")) (member e (codes "len")))
    io_limit = record { type = numbers ctys.U64; is = rw (h, io) refl; ty = ctys.U64; counts = refl }

    pub io_pointer : type_of S (member e (codes "ptr")) ≡ Some (points_to (cell (uint U8)))
    io_pointer = rw (h, io) refl

  module _ (p : PackageTree) (s : ℕ) where
    -- The scope knows the struct, and `self` points to one.
    pub record HasSelf : Type 0 where
      pub own : struct_named S.structs (struct_type p s) ≡ Some (record { fields = struct_fields p s; name = struct_type p s })
      pub distinct : all_distinct (labels (struct_fields p s)) ≡ true
      pub receiver : find (λ it. bytes_eq it.name (codes "self")) S.names ≡ Some (record { kind = struct_pointer (struct_type p s); name = codes "self" })

    module _ (h : HasSelf) where
      pub self_type : type_of S self ≡ Some (points_to (object (struct_type p s)))
      self_type = name_type (record { kind = struct_pointer (struct_type p s); name = codes "self" }) h.receiver

      field_there : (f : FieldTree) → There f (struct_fields p s) → field_of S (struct_type p s) f.name ≡ Some f
      field_there f t = rw h.own (there_found (λ (f : FieldTree). f.name) (struct_fields p s) f h.distinct t)

      pub member_so : (f : FieldTree) → There f (struct_fields p s) → held_of S (of_self f.name) ≡ Some (field_held (struct_type p s) f)
      member_so f t = ap (member_held S f.name) self_type ∙ ap (option_map (field_held (struct_type p s))) (field_there f t)

      -- A cell of its own, that isn't the pointer of a buffer.
      pub own_cell : (t : TypeTree) (name : List ℕ) → bytes_eq name (codes "ptr") ≡ false → There (record { kind = plain t; name = name; count = None }) (struct_fields p s) → held_of S (of_self name) ≡ Some (one t)
      own_cell t name n there =
          member_so (record { kind = plain t; name = name; count = None }) there
          ∙ ap (λ b. Some (cell_held b t)) (ap (λ b. bytes_eq (struct_type p s) io_buffer && b) n ∙ none_false (bytes_eq (struct_type p s) io_buffer))

-- ---- fields of a struct

abbrev own_life : FieldTree
own_life = record { kind = plain (uint U8); name = codes "life"; count = None }

abbrev own_active : FieldTree
own_active = record { kind = plain (uint U32); name = codes "active"; count = None }

module _ (p : PackageTree) where
  source_there : (xs : List Variable) (n : ℕ) (x : Variable) → slice_get xs n ≡ Some x → There (source_field p x) (source_fields p xs)
  source_there [] n x e = absurd (cc e)
  source_there (y ∷ xs) zero x e =
      let same : y ≡ x = cc e in
      (0, ap (λ z. Some (source_field p z)) same)
  source_there (y ∷ xs) (suc n) x e = there_later (source_field p x) (source_field p y) (source_fields p xs) (source_there xs n x e)

  pub source_in : (s n : ℕ) (x : Variable) → slice_get (fields_of p s) n ≡ Some x → There (source_field p x) (struct_fields p s)
  source_in s n x e =
      there_later (source_field p x) own_life (own_active ∷ (source_fields p (fields_of p s) ++ methods_fields s p.methods)) (there_later (source_field p x) own_active (source_fields p (fields_of p s) ++ methods_fields s p.methods) (there_front (source_field p x) (source_fields p (fields_of p s)) (methods_fields s p.methods) (source_there (fields_of p s) n x e)))

  methods_there : (s : ℕ) (f : FieldTree) (ms : List MethodTree) (n : ℕ) (m : MethodTree) → slice_get ms n ≡ Some m → m.of ≡ s → There f (coroutine_fields m) → There f (methods_fields s ms)
  methods_there s f [] n m e o h = absurd (cc e)
  methods_there s f (x ∷ ms) zero m e o h =
      let same : x ≡ m = cc e in
      let P : MethodTree → Type 0 = λ z. There f (if nat_eq z.of s then coroutine_fields z ++ methods_fields s ms else methods_fields s ms) in
      let t : nat_eq m.of s ≡ true = grind (arith, nat_tests, o) in
      subst P (sym same) (rw t (there_front f (coroutine_fields m) (methods_fields s ms) h))
  methods_there s f (x ∷ ms) (suc n) m e o h = by (nat_eq x.of s) (methods_there s f ms n m e o h)
    where
      by : (b : Bool) → There f (methods_fields s ms) → There f (if b then coroutine_fields x ++ methods_fields s ms else methods_fields s ms)
      by true k = there_behind f (coroutine_fields x) (methods_fields s ms) k
      by false k = k

  pub method_in : (n : ℕ) (m : MethodTree) (f : FieldTree) → slice_get p.methods n ≡ Some m → There f (coroutine_fields m) → There f (struct_fields p m.of)
  method_in n m f e h =
      there_later f own_life (own_active ∷ (source_fields p (fields_of p m.of) ++ methods_fields m.of p.methods)) (there_later f own_active (source_fields p (fields_of p m.of) ++ methods_fields m.of p.methods) (there_behind f (source_fields p (fields_of p m.of)) (methods_fields m.of p.methods) (methods_there m.of f p.methods n m e refl h)))

  pub life_in : (s : ℕ) → There (record { kind = plain (uint U8); name = codes "life"; count = None }) (struct_fields p s)
  life_in s = (0, refl)

  pub active_in : (s : ℕ) → There (record { kind = plain (uint U32); name = codes "active"; count = None }) (struct_fields p s)
  active_in s = (1, refl)
