-- The struct states of a receiver, apart from the host's buffers and byte arrays; what an init makes of them, and what the host
-- does to buffers.
use Rattle.std.proofs.Common.{◌≡◌, ℕ, zero, suc, ◌-◌, ◌^◌, ◌≤◌, ◌<◌, true, List, [], ◌∷◌, length, drop, map, replicate, Option, Some, None, refl, sym, ap, ◌∙◌, subst, arith, length-take, length-drop}
use Rattle.std.specs.Prelude.{slice_get, option_map, option_and_then, is_some, nat_lt}
use Rattle.std.specs.List.{list_all}
use Rattle.std.proofs.lemmas.Bool.{and_parts}
use Rattle.std.proofs.lemmas.Bool.Decides.{nat_tests}
use Rattle.std.proofs.lemmas.List.Elements.{All-take, All-drop, All-replicate}
use Rattle.std.proofs.lemmas.Option.{slice_get-map}
use Rattle.std.proofs.lemmas.List.{length-replicate}
use Rattle.wf_base.specs.BaseOps.{Buffer, AreBytes}
use Rattle.wf_base.specs.BaseOps as ops
use Rattle.wf_base.specs.HostRun.{Host}
use Rattle.wf_ast.specs.declared.types.Ty.{Ty}
use Rattle.wf_ast.specs.declared.types.Ty.TheVariants as types
use Rattle.wf_ast.specs.TypedPackage.{Variable, StructTree, PackageTree}
use Rattle.wf_ast.specs.WellTyped.{field_at, variable_at, is_range, may_be_field, is_whole, all_structs_whole, well_typed}
use Rattle.wf_facts_exprs.specs.LawfulState.{IsOf}
use Rattle.wf_meaning.specs.SourceState.{Held, held_num, held_truth, held_status, held_cells, held_part, Object, Remaining, cleared, cleared_object}
use Rattle.wf_meaning.specs.World.{World}
use Rattle.wf_sound.specs.Worlds.{Shape, numbers_of, IsHeldAs, IsLawfulWorld}
use Rattle.wf_sound.proofs.BufferWrites.{length-overwritten, All-overwritten}
use Rattle.wf_sound_runs.proofs.Running.{IsResumable}

-- What stands in fields lies in its type by the structs alone.
pub held-by : (shape other : Shape) → shape.structs ≡ other.structs → (ty : Ty) (held : Held) → IsHeldAs shape ty held → IsHeldAs other ty held
held-by shape other e (types.Num width lo hi) (held_num n) h = h
held-by shape other e (types.Num width lo hi) held h = absurd h
held-by shape other e types.Flag (held_truth t) h = h
held-by shape other e types.Flag held h = absurd h
held-by shape other e types.Status (held_status n) h = h
held-by shape other e types.Status held h = absurd h
held-by shape other e (types.Array width lo hi count) (held_cells cells) h = h
held-by shape other e (types.Array width lo hi count) held h = absurd h
held-by shape other e (types.Part s) (held_part object) h = ap (λ xs. slice_get xs object) (sym e) ∙ h
held-by shape other e (types.Part s) held h = absurd h
held-by shape other e types.Reader held h = absurd h
held-by shape other e types.Writer held h = absurd h
held-by shape other e (types.Slice width) held h = absurd h

module _ (p : PackageTree) where
  abbrev R : (method : ℕ) → Remaining → Type 0
  R = IsResumable p

  -- The struct states of a receiver.
  pub record ObjectsLawful (structs : List ℕ) (objects : List Object) : Type 0 where
    pub there : (object s : ℕ) → slice_get structs object ≡ Some s → is_some (slice_get objects object) ≡ true
    pub fields : (object n : ℕ) (ty : Ty) → option_and_then (λ s. field_at p s n) (slice_get structs object) ≡ Some ty
        → (held : Held) × (option_and_then (λ (o : Object). slice_get o.fields n) (slice_get objects object) ≡ Some held) × IsHeldAs (record { structs = structs; arrays = []; buffers = 0 }) ty held
    pub remaining : (object method : ℕ) (o : Object) (left : Remaining) → slice_get objects object ≡ Some o → slice_get o.remaining method ≡ Some (Some left) → R method left

  -- The host's buffers and byte arrays.
  pub record HostLawful (lens : List ℕ) (buffers : ℕ) (h : Host) : Type 0 where
    pub arrays : (a len : ℕ) → slice_get lens a ≡ Some len → (cells : List ℕ) × (slice_get h.arrays a ≡ Some cells) × (length cells ≡ len) × AreBytes cells
    pub held_buffers : (k : ℕ) → k < buffers → (b : Buffer) × (slice_get h.buffers k ≡ Some b) × ops.IsLawful b

  pub with-host : (structs lens : List ℕ) (buffers : ℕ) (objects : List Object) (h : Host) → ObjectsLawful structs objects → HostLawful lens buffers h
      → IsLawfulWorld p R (record { structs = structs; arrays = lens; buffers = buffers }) (record { objects = objects; host = h })
  with-host structs lens buffers objects h o k = record {
    objects = o.there;
    fields = λ object n ty e. let found = o.fields object n ty e in (found.0, found.1, held-by (record { structs = structs; arrays = []; buffers = 0 }) (record { structs = structs; arrays = lens; buffers = buffers }) refl ty found.0 found.2);
    remaining = o.remaining;
    arrays = k.arrays;
    buffers = k.held_buffers;
  }

  pub objects-of : (structs lens : List ℕ) (buffers : ℕ) (w : World) → IsLawfulWorld p R (record { structs = structs; arrays = lens; buffers = buffers }) w → ObjectsLawful structs w.objects
  objects-of structs lens buffers w h = record {
    there = h.objects;
    fields = λ object n ty e. let found = h.fields object n ty e in (found.0, found.1, held-by (record { structs = structs; arrays = lens; buffers = buffers }) (record { structs = structs; arrays = []; buffers = 0 }) refl ty found.0 found.2);
    remaining = h.remaining;
  }

  pub host-of : (structs lens : List ℕ) (buffers : ℕ) (w : World) → IsLawfulWorld p R (record { structs = structs; arrays = lens; buffers = buffers }) w → HostLawful lens buffers w.host
  host-of structs lens buffers w h = record { arrays = h.arrays; held_buffers = h.buffers }

  -- Fields hold zero.
  pub fields-well : (n : ℕ) (ss : List StructTree) → all_structs_whole p n ss ≡ true → (k : ℕ) (s : StructTree) → slice_get ss k ≡ Some s → list_all (λ x. may_be_field p x.ty) s.fields ≡ true
  fields-well n [] h k s e = absurd (cc (e))
  fields-well n (x ∷ xs) h zero s e =
      let a = and_parts (is_whole p (length p.structs) n) _ h in
      let b = and_parts (list_all (λ x. may_be_field p x.ty) x.fields) _ a.1 in
      let same : x ≡ s = cc (e) in
      let P : StructTree → Type 0 = λ s. list_all (λ x. may_be_field p x.ty) s.fields ≡ true in
      subst P same b.0
  fields-well n (x ∷ xs) h (suc k) s e =
      let a = and_parts (is_whole p (length p.structs) n) _ h in
      fields-well (suc n) xs (and_parts (list_all (λ x. may_be_field p x.ty) x.fields) _ a.1).1 k s e

  variable-well : (xs : List Variable) (n : ℕ) (ty : Ty) → list_all (λ x. may_be_field p x.ty) xs ≡ true → variable_at xs n ≡ Some ty → may_be_field p ty ≡ true
  variable-well [] n ty h e = absurd (cc (e))
  variable-well (x ∷ xs) zero ty h e =
      let same : x.ty ≡ ty = cc (e) in
      let P : Ty → Type 0 = λ ty. may_be_field p ty ≡ true in
      subst P same (and_parts (may_be_field p x.ty) _ h).0
  variable-well (x ∷ xs) (suc n) ty h e = variable-well xs n ty (and_parts (may_be_field p x.ty) _ h).1 e

  pub field-well : (typed : well_typed p ≡ true) (s n : ℕ) (ty : Ty) → field_at p s n ≡ Some ty → may_be_field p ty ≡ true
  unfolding well_typed
  field-well typed s n ty e = by (slice_get p.structs s) refl e
    where
      by : (o : Option StructTree) → slice_get p.structs s ≡ o → option_and_then (λ it. variable_at it.fields n) o ≡ Some ty → may_be_field p ty ≡ true
      by None i k = absurd (cc (k))
      by (Some it) i k = variable-well it.fields n ty (fields-well 0 p.structs (and_parts (all_structs_whole p 0 p.structs) _ typed).0 s it i) k

  -- An init.
  cleared-held : (shape : Shape) (ty : Ty) (held : Held) → may_be_field p ty ≡ true → IsHeldAs shape ty held → IsHeldAs shape ty (cleared held)
  cleared-held shape (types.Num width lo hi) (held_num n) m h =
      let q = and_parts (is_range (numbers_of width lo hi)) _ m in
      let z : lo ≡ 0 = grind (arith, nat_tests, q.1) in
      record { above = omega (arith, z); below = omega arith }
  cleared-held shape (types.Num width lo hi) held m h = absurd h
  cleared-held shape types.Flag (held_truth t) m h = h
  cleared-held shape types.Flag held m h = absurd h
  cleared-held shape types.Status (held_status n) m h = h
  cleared-held shape types.Status held m h = absurd h
  cleared-held shape (types.Array width lo hi count) (held_cells cells) m h =
      let a = and_parts (nat_lt 0 count) _ m in
      let q = and_parts (is_range (numbers_of width lo hi)) _ a.1 in
      let z : lo ≡ 0 = grind (arith, nat_tests, q.1) in
      let zero_in : IsOf (numbers_of width lo hi) 0 = record { above = omega (arith, z); below = omega arith } in
      (length-replicate (length cells) 0 ∙ h.0, (h.1.0, All-replicate (IsOf (numbers_of width lo hi)) (length cells) 0 zero_in))
  cleared-held shape (types.Array width lo hi count) held m h = absurd h
  cleared-held shape (types.Part s) (held_part object) m h = h
  cleared-held shape (types.Part s) held m h = absurd h
  cleared-held shape types.Reader held m h = absurd h
  cleared-held shape types.Writer held m h = absurd h
  cleared-held shape (types.Slice width) held m h = absurd h

  pub nothing-remains : (n m : ℕ) (left : Remaining) → slice_get (replicate n None) m ≡ Some (Some left) → ⊥
  nothing-remains zero m left e = cc (e)
  nothing-remains (suc n) zero left e = cc (e)
  nothing-remains (suc n) (suc m) left e = nothing-remains n m left e

  some-mapped : (objects : List Object) (k : ℕ) → is_some (slice_get objects k) ≡ true → is_some (slice_get (map cleared_object objects) k) ≡ true
  some-mapped objects k h = rw (slice_get-map cleared_object objects k) (by (slice_get objects k) h)
    where
      by : (o : Option Object) → is_some o ≡ true → is_some (option_map cleared_object o) ≡ true
      by None h = absurd (cc (h))
      by (Some o) h = refl

  pub cleared-lawful : (typed : well_typed p ≡ true) (structs : List ℕ) (objects : List Object) → ObjectsLawful structs objects → ObjectsLawful structs (map cleared_object objects)
  cleared-lawful typed structs objects h = record {
    there = λ object s e. some-mapped objects object (h.there object s e);
    fields = fields;
    remaining = remaining;
  }
    where
      shape : Shape
      shape = record { structs = structs; arrays = []; buffers = 0 }

      well : (object n : ℕ) (ty : Ty) → option_and_then (λ s. field_at p s n) (slice_get structs object) ≡ Some ty → may_be_field p ty ≡ true
      well object n ty e = by (slice_get structs object) e
        where
          by : (o : Option ℕ) → option_and_then (λ s. field_at p s n) o ≡ Some ty → may_be_field p ty ≡ true
          by None e = absurd (cc (e))
          by (Some s) e = field-well typed s n ty e

      at : (n : ℕ) (o : Option Object) (held : Held) → option_and_then (λ (o : Object). slice_get o.fields n) o ≡ Some held → option_and_then (λ (o : Object). slice_get o.fields n) (option_map cleared_object o) ≡ Some (cleared held)
      at n None held e = absurd (cc (e))
      at n (Some o) held e = slice_get-map cleared o.fields n ∙ ap (option_map cleared) e

      fields : (object n : ℕ) (ty : Ty) → option_and_then (λ s. field_at p s n) (slice_get structs object) ≡ Some ty
          → (held : Held) × (option_and_then (λ (o : Object). slice_get o.fields n) (slice_get (map cleared_object objects) object) ≡ Some held) × IsHeldAs (record { structs = structs; arrays = []; buffers = 0 }) ty held
      fields object n ty e =
          let found = h.fields object n ty e in
          (cleared found.0, rw (slice_get-map cleared_object objects object) (at n (slice_get objects object) found.0 found.1), cleared-held (record { structs = structs; arrays = []; buffers = 0 }) ty found.0 (well object n ty e) found.2)

      none : (o : Option Object) (x : Object) (m : ℕ) (left : Remaining) → option_map cleared_object o ≡ Some x → slice_get x.remaining m ≡ Some (Some left) → ⊥
      none None x m left e i = cc (e)
      none (Some o) x m left e i =
          let same : cleared_object o ≡ x = cc (e) in
          let P : Object → Type 0 = λ x. slice_get x.remaining m ≡ Some (Some left) in
          nothing-remains (length o.remaining) m left (subst P (sym same) i)

      remaining : (object m : ℕ) (x : Object) (left : Remaining) → slice_get (map cleared_object objects) object ≡ Some x → slice_get x.remaining m ≡ Some (Some left) → R m left
      remaining object m x left e i = absurd (none (slice_get objects object) x m left (sym (slice_get-map cleared_object objects object) ∙ e) i)

  -- Buffers that the host changes.
  pub compact-lawful : (b : Buffer) → ops.IsLawful b → ops.IsLawful (ops.compact b)
  compact-lawful b h =
      let few : length (ops.unread b) ≤ length b.cells = omega (arith, length-take (b.wi - b.ri) (drop b.ri b.cells), length-drop b.ri b.cells) in
      let long : length (ops.overwritten 0 (ops.unread b) b.cells) ≡ length b.cells = length-overwritten 0 (ops.unread b) b.cells (omega (arith, few)) in
      record {
        read = omega arith;
        written = omega (arith, long, h.written);
        bytes = All-overwritten (λ cell. cell < 2 ^ 8) 0 (ops.unread b) b.cells (All-take (λ cell. cell < 2 ^ 8) (b.wi - b.ri) (drop b.ri b.cells) (All-drop (λ cell. cell < 2 ^ 8) b.ri b.cells h.bytes)) h.bytes;
        size = omega (arith, long, h.size);
        counted = omega arith;
      }

  pub close-lawful : (b : Buffer) → ops.IsLawful b → ops.IsLawful (ops.close b)
  close-lawful b h = record { read = h.read; written = h.written; bytes = h.bytes; size = h.size; counted = h.counted }
