-- A value goes to a target that takes it: nothing is stuck, values lie in their types again, and what doesn't mention the
-- target is as it was.
use Rattle.std.proofs.Common.{◌≡◌, ℕ, suc, ◌+◌, ◌^◌, ◌<◌, ◌≤◌, Bool, true, false, ◌&&◌, inl, inr, List, [], ◌∷◌, length, Option, Some, None, refl, sym, ◌∙◌, subst, nat_eq, arith}
use Rattle.std.specs.Prelude.{slice_get, slice_set, option_and_then, nat_lt, nat_le}
use Rattle.std.proofs.lemmas.Bool.{and_parts}
use Rattle.std.proofs.lemmas.Bool.Decides.{nat_tests}
use Rattle.std.proofs.lemmas.List.{length-set}
use Rattle.std.proofs.lemmas.List.Elements.{All-set}
use Rattle.wf_base.specs.BaseTable.{bits_of}
use Rattle.wf_base.specs.declared.widths.Width.{Width}
use Rattle.wf_ast.specs.declared.things.Thing.{Thing}
use Rattle.wf_ast.specs.declared.things.Thing.TheVariants as things
use Rattle.wf_ast.specs.declared.types.Ty.{Ty}
use Rattle.wf_ast.specs.declared.types.Ty.TheVariants as types
use Rattle.wf_ast.specs.TypedTree.{Path, local, field, arg, NumType, NumTree, read, element, SliceTree, Target, to_number, to_element, to_flag, to_status, to_slice, to_nothing}
use Rattle.wf_ast.specs.TypedPackage.{PackageTree}
use Rattle.wf_ast.specs.WellTyped.{Context, type_at, variable_at, same_num_type, is_range, is_number, is_flag, is_status, is_slice, is_whole_number, element_type, well_slice, well_num, may_write}
use Rattle.wf_ast.specs.Value.{Store, nowhere, host_array, field_array, Span, Value, num, truth_value, status_number, span, State, value, span_of, element_of}
use Rattle.wf_facts_exprs.specs.Claims.{Claim, AllTrue}
use Rattle.wf_facts_exprs.specs.Demands.{num_refusal}
use Rattle.wf_facts_exprs.specs.LawfulState.{IsOf, well_claims}
use Rattle.wf_facts_exprs.proofs.Soundness.{Sound, num-of}
use Rattle.wf_meaning.specs.SourceState.{Held, held_num, held_truth, held_status, held_cells, Remaining}
use Rattle.wf_meaning.specs.World.{Body, Vars, updated, held_at, held_of, cells_held, with_cells, set_path, in_range, fits_store, put_value}
use Rattle.wf_meaning.specs.SourceStep.{state_of}
use Rattle.wf_meaning.proofs.Lists.{updated-at, updated-other}
use Rattle.wf_meaning.proofs.Lists2.{Made, and_then_made}
use Rattle.wf_bounds_stmts.specs.Targets.{target_refusal, thing_at, written_by, without_some}
use Rattle.wf_sound.specs.Worlds.{Shape, field_type, numbers_of, IsSliceOf, IsOfType, IsHeldAs, context_of, IsLawfulBody}
use Rattle.wf_sound.proofs.Drops.{AgreeBeside, drops-true, agree-same}
use Rattle.wf_sound.proofs.FieldWrites.{same_or_not, held-changed, field-lawful, cells-lawful, CellsKept}
use Rattle.wf_sound.proofs.Views.{FieldHas, field-has, lawful-view}
use Rattle.wf_sound.proofs.TypedValues.{IsSpanOf, store_has, array_has, store-fits, span-typed}
use Rattle.wf_sound.proofs.Agreements.{local-agree, field-agree, cells-agree, host-cells-agree}

-- The value is one that the target takes, and the target is one that a method with its mark may write.
abbrev pub IsFor : PackageTree → Shape → Target → Value → Type 0
IsFor p shape (to_number at of path) (num n) = IsOf of n
IsFor p shape (to_element at of cells index) (num n) = IsOf of n
IsFor p shape (to_flag at path) (truth_value t) = Unit {0}
IsFor p shape (to_status at path) (status_number n) = Unit {0}
IsFor p shape (to_slice at bits path) (span s) = IsSliceOf p shape bits s
IsFor p shape to_nothing v = Unit {0}
IsFor p shape target v = ⊥

abbrev pub well_target : Context → Target → Bool
well_target c (to_number at of path) = may_write c.method.mark path && well_num c (read at of path)
well_target c (to_element at of cells index) = well_num c (element at of cells index)
well_target c (to_flag at path) = may_write c.method.mark path && is_flag (type_at c path)
well_target c (to_status at path) = may_write c.method.mark path && is_status (type_at c path)
well_target c (to_slice at bits path) = may_write c.method.mark path && is_slice bits (type_at c path)
well_target c to_nothing = true

-- Two states differ at most in what is written.
abbrev pub AgreeButFor : Option Thing → State → State → Type 0
AgreeButFor None s s' = s ≡ s'
AgreeButFor (Some x) s s' = AgreeBeside (x ∷ []) s s'

pub without_some-true : (x : Option Thing) (s s' : State) (fs : List Claim) → AgreeButFor x s s' → AllTrue s fs → AllTrue s' (without_some x fs)
without_some-true None s s' fs agree h = let P : State → Type 0 = λ s. AllTrue s fs in subst P agree h
without_some-true (Some x) s s' fs agree h = drops-true x [] s s' fs agree h

module _ (R : (method : ℕ) → Remaining → Type 0) (shape : Shape) (b : Body) where
  pub record PutIn (target : Target) (v : Value) (vars : Vars) : Type 0 where
    pub after : Vars
    pub is : put_value b target v vars ≡ Some after
    pub lawful : IsLawfulBody R shape b after
    pub agree : AgreeButFor (written_by target) (state_of b vars) (state_of b after)

  module _ (vars : Vars) (lawful : IsLawfulBody R shape b vars) where
    -- A local, or a field.
    put-local : (n : ℕ) (ty : Ty) (v : Value) → variable_at b.method.locals n ≡ Some ty → IsOfType b.within shape ty v → IsLawfulBody R shape b (record vars { locals = updated (λ _. v) n vars.locals })
    put-local n ty v h k = record { world = lawful.world; receiver = lawful.receiver; args = lawful.args; locals = record { each = each } }
      where
        each : (m : ℕ) (ty' : Ty) → variable_at b.method.locals m ≡ Some ty' → (u : Value) × (slice_get (updated (λ _. v) n vars.locals) m ≡ Some u) × IsOfType b.within shape ty' u
        each m ty' e =
            let found = lawful.locals.each m ty' e in
            elim (same_or_not m n) [
              | inl same ↦ here found.0 found.1 same
              | inr not_same ↦ (found.0, updated-other (λ _. v) n m vars.locals not_same ∙ found.1, found.2)
            ]
          where
            here : (old : Value) → slice_get vars.locals m ≡ Some old → m ≡ n → (u : Value) × (slice_get (updated (λ _. v) n vars.locals) m ≡ Some u) × IsOfType b.within shape ty' u
            here old there same =
                let P : ℕ → Type 0 = λ n. slice_get (updated (λ _. v) n vars.locals) m ≡ Some v in
                let Q : ℕ → Type 0 = λ n. variable_at b.method.locals n ≡ Some ty' in
                let k1 : Some ty ≡ Some ty' = sym h ∙ subst Q same e in
                let k2 : ty ≡ ty' = cc (k1) in
                let S : Ty → Type 0 = λ ty. IsOfType b.within shape ty v in
                (v, subst P same (updated-at (λ _. v) m vars.locals old there), subst S k2 k)

    -- What goes to a field lies there in its type, and what stood there was no array.
    held-fits : (ty : Ty) (v : Value) (held : Held) → IsOfType b.within shape ty v → IsHeldAs shape ty held → IsHeldAs shape ty (held_of v) × (cells_held held ≡ [])
    held-fits (types.Num width lo hi) (num n) (held_num m) h k = (h, refl)
    held-fits (types.Num width lo hi) (num n) held h k = absurd k
    held-fits (types.Num width lo hi) v held h k = absurd h
    held-fits types.Flag (truth_value t) (held_truth m) h k = (tt, refl)
    held-fits types.Flag (truth_value t) held h k = absurd k
    held-fits types.Flag v held h k = absurd h
    held-fits types.Status (status_number n) (held_status m) h k = (tt, refl)
    held-fits types.Status (status_number n) held h k = absurd k
    held-fits types.Status v held h k = absurd h
    held-fits (types.Slice width) v held h k = absurd k
    held-fits types.Reader v held h k = absurd k
    held-fits types.Writer v held h k = absurd k
    held-fits (types.Array width lo hi count) v held h k = absurd h
    held-fits (types.Part s) v held h k = absurd h

    pub record PathPut (path : Path) (v : Value) : Type 0 where
      pub fine : IsLawfulBody R shape b (set_path b path v vars)
      pub agrees : AgreeBeside (thing_at path ∷ []) (state_of b vars) (state_of b (set_path b path v vars))

    pub path-put : (path : Path) (ty : Ty) (v : Value) → may_write b.method.mark path ≡ true → type_at (context_of b) path ≡ Some ty → IsOfType b.within shape ty v → PathPut path v
    path-put (local n) ty v m h k = record { fine = put-local n ty v h k; agrees = local-agree b n v vars }
    path-put (arg n) ty v m h k = absurd (cc (m))
    path-put (field n) ty v m h k =
        let old : FieldHas R shape b vars.world n ty = field-has R shape b vars.world n ty lawful.world lawful.receiver h in
        let fits = held-fits ty v old.held k old.lies in
        let here : field_type b.within shape b.object n ≡ Some ty = rw lawful.receiver h in
        record {
          fine = record {
            world = field-lawful b.within R shape b.object n (λ _. held_of v) vars.world lawful.world (λ ty' held e there lies. other ty' (here_is ty' here e) fits.0);
            receiver = lawful.receiver;
            args = lawful.args;
            locals = lawful.locals;
          };
          agrees = field-agree b n v vars old.held old.is fits.1;
        }
      where
        here_is : (ty' : Ty) → field_type b.within shape b.object n ≡ Some ty → field_type b.within shape b.object n ≡ Some ty' → ty ≡ ty'
        here_is ty' p q = let e : Some ty ≡ Some ty' = sym p ∙ q in cc (e)

        other : (ty' : Ty) → ty ≡ ty' → IsHeldAs shape ty (held_of v) → IsHeldAs shape ty' (held_of v)
        other ty' e g = let P : Ty → Type 0 = λ t. IsHeldAs shape t (held_of v) in subst P e g

    pub typed : (test : Option Ty → Bool) (o : Option Ty) → test None ≡ false → test o ≡ true → (ty : Ty) × (o ≡ Some ty) × (test (Some ty) ≡ true)
    typed test None none h = absurd (cc (none, h))
    typed test (Some ty) none h = (ty, refl, h)

    number-of-type : (of : NumType) (ty : Ty) (n : ℕ) → is_number of (Some ty) ≡ true → IsOf of n → IsOfType b.within shape ty (num n)
    number-of-type of (types.Num width lo hi) n h k =
        let p = and_parts (nat_eq of.bits (bits_of width)) _ h in
        let q = and_parts (nat_eq of.low lo) _ p.1 in
        let i : of.low ≡ lo = grind (arith, nat_tests, q.0) in
        let j : of.high ≡ hi = grind (arith, nat_tests, q.1) in
        record { above = omega (arith, i, k.above); below = omega (arith, j, k.below) }
    number-of-type of ty n h k = absurd (cc (h))

    flag-of-type : (ty : Ty) (t : Bool) → is_flag (Some ty) ≡ true → IsOfType b.within shape ty (truth_value t)
    flag-of-type types.Flag t h = tt
    flag-of-type ty t h = absurd (cc (h))

    status-of-type : (ty : Ty) (n : ℕ) → is_status (Some ty) ≡ true → IsOfType b.within shape ty (status_number n)
    status-of-type types.Status n h = tt
    status-of-type ty n h = absurd (cc (h))

    slice-of-type : (bits : ℕ) (ty : Ty) (xs : Span) → is_slice bits (Some ty) ≡ true → IsSliceOf b.within shape bits xs → IsOfType b.within shape ty (span xs)
    slice-of-type bits (types.Slice width) xs h k =
        let same : bits ≡ bits_of width = grind (arith, nat_tests, h) in
        let P : ℕ → Type 0 = λ n. IsSliceOf b.within shape n xs in
        subst P same k
    slice-of-type bits ty xs h k = absurd (cc (h))

    -- An element.
    set-kept : (of : NumType) (store : Store) (i n : ℕ) → store_has b.within shape of store ≡ true → IsOf of n → CellsKept b.within R shape store (λ xs. slice_set xs i n)
    set-kept of nowhere i n h k = tt
    set-kept of (host_array a) i n h k = λ len e xs long all.
        let p = and_parts (nat_eq of.bits 8) _ h in
        let q = and_parts (nat_eq of.low 0) _ p.1 in
        let high : of.high ≡ 255 = grind (arith, nat_tests, q.1) in
        (length-set xs i n, All-set (λ cell. cell < 2 ^ 8) xs i n (omega (arith, high, k.below)) all)
    set-kept of (field_array object m) i n h k = λ width lo hi count e xs long all.
        let P : Option Ty → Type 0 = λ o. array_has b.within shape of o ≡ true in
        let t : array_has b.within shape of (Some (types.Array width lo hi count)) ≡ true = subst P e h in
        let p = and_parts (nat_eq of.bits (bits_of width)) _ t in
        let q = and_parts (nat_eq of.low lo) _ p.1 in
        let low : of.low ≡ lo = grind (arith, nat_tests, q.0) in
        let high : of.high ≡ hi = grind (arith, nat_tests, q.1) in
        (length-set xs i n, All-set (IsOf (numbers_of width lo hi)) xs i n (record { above = omega (arith, low, k.above); below = omega (arith, high, k.below) }) all)

    pub store-agree : (store : Store) (change : List ℕ → List ℕ) → CellsKept b.within R shape store change
        → (known : (object n : ℕ) (cells : List ℕ) → store ≡ field_array object n → held_at vars.world object n ≡ Some (held_cells cells) → length (change cells) ≡ length cells)
        → AgreeBeside (things.Element ∷ []) (state_of b vars) (state_of b (record vars { world = with_cells store change vars.world }))
    store-agree nowhere change kept known = agree-same (things.Element ∷ []) (state_of b vars)
    store-agree (host_array a) change kept known = host-cells-agree b a change vars
    store-agree (field_array object n) change kept known = cells-agree b object n change vars (λ cells e. known object n cells refl e)

    known-length : (store : Store) (change : List ℕ → List ℕ) → CellsKept b.within R shape store change → (object n : ℕ) (cells : List ℕ) (width : Width) (lo hi count : ℕ) → store ≡ field_array object n
        → field_type b.within shape object n ≡ Some (types.Array width lo hi count) → held_at vars.world object n ≡ Some (held_cells cells) → length (change cells) ≡ length cells
    known-length store change kept object n cells width lo hi count is e there =
        let P : Store → Type 0 = λ store. CellsKept b.within R shape store change in
        let k : CellsKept b.within R shape (field_array object n) change = subst P is kept in
        let found = lawful.world.fields object n (types.Array width lo hi count) e in
        let same1 : Some found.0 ≡ Some (held_cells cells) = sym found.1 ∙ there in
        let same : found.0 ≡ held_cells cells = cc (same1) in
        let Q : Held → Type 0 = λ held. IsHeldAs shape (types.Array width lo hi count) held in
        let lies : Q (held_cells cells) = subst Q same found.2 in
        (k width lo hi count e cells lies.0 lies.1.1).0

    -- The elements of a store with a type are changed, each to one of the type.
    pub record CellsPut (store : Store) (change : List ℕ → List ℕ) : Type 0 where
      pub fine : IsLawfulBody R shape b (record vars { world = with_cells store change vars.world })
      pub agrees : AgreeBeside (things.Element ∷ []) (state_of b vars) (state_of b (record vars { world = with_cells store change vars.world }))

    pub cells-put : (of : NumType) (store : Store) (change : List ℕ → List ℕ) → store_has b.within shape of store ≡ true → CellsKept b.within R shape store change → CellsPut store change
    cells-put of store change has kept = record {
      fine = record { world = cells-lawful b.within R shape store change vars.world lawful.world kept; receiver = lawful.receiver; args = lawful.args; locals = lawful.locals };
      agrees = store-agree store change kept (λ object n cells is there. by object n cells (field_type b.within shape object n) refl is there);
    }
      where
        by : (object n : ℕ) (cells : List ℕ) (o : Option Ty) → field_type b.within shape object n ≡ o → store ≡ field_array object n → held_at vars.world object n ≡ Some (held_cells cells) → length (change cells) ≡ length cells
        by object n cells o e is there =
            let P : Store → Type 0 = λ store. store_has b.within shape of store ≡ true in
            let h : array_has b.within shape of (field_type b.within shape object n) ≡ true = subst P is has in
            let Q : Option Ty → Type 0 = λ o. array_has b.within shape of o ≡ true in
            array o e is there (subst Q e h)
          where
            array : (o : Option Ty) → field_type b.within shape object n ≡ o → store ≡ field_array object n → held_at vars.world object n ≡ Some (held_cells cells) → array_has b.within shape of o ≡ true → length (change cells) ≡ length cells
            array (Some (types.Array width lo hi count)) e is there h = known-length store change kept object n cells width lo hi count is e there
            array (Some ty) e is there h = absurd (cc (h))
            array None e is there h = absurd (cc (h))

    -- A value goes to a target.
    in-range : (of : NumType) (n : ℕ) → IsOf of n → in_range of n ≡ true
    in-range of n k = let p : of.low ≤ n = k.above in let q : n ≤ of.high = k.below in grind (arith, nat_tests, p, q)

    module _ (fs : List Claim) (well : well_claims (context_of b) fs ≡ true) (known : AllTrue (state_of b vars) fs) where
      index-in : (at : _) (of : NumType) (cells : SliceTree) (index : NumTree) → well_num (context_of b) (element at of cells index) ≡ true → num_refusal fs false (element at of cells index) ≡ None
          → (xs : Span) × (k : ℕ) × (span_of (state_of b vars) cells ≡ Some xs) × (value (state_of b vars) index ≡ Some k) × (k < xs.count)
      index-in at of cells index h e =
          let x : Sound (context_of b) (state_of b vars) (lawful-view R shape b vars lawful) fs well known false (element at of cells index) = num-of (context_of b) (state_of b vars) (lawful-view R shape b vars lawful) fs well known (element at of cells index) h e in
          let f = λ (xs : Span). option_and_then (element_of (state_of b vars) xs) (value (state_of b vars) index) in
          let y : Made f (span_of (state_of b vars) cells) x.number = and_then_made f (span_of (state_of b vars) cells) x.number x.is in
          let z : Made (element_of (state_of b vars) y.x) (value (state_of b vars) index) x.number = and_then_made (element_of (state_of b vars) y.x) (value (state_of b vars) index) x.number y.gives in
          (y.x, z.x, y.from, z.from, below z.x y.x x.number z.gives)
        where
          below : (k : ℕ) (xs : Span) (m : ℕ) → element_of (state_of b vars) xs k ≡ Some m → k < xs.count
          below k xs m g = by (nat_lt k xs.count) refl
            where
              by : (t : Bool) → nat_lt k xs.count ≡ t → k < xs.count
              by true i = grind (arith, nat_tests, i)
              by false i = let q : None ≡ Some m = sym (rw i refl) ∙ g in absurd (cc (q))

      put-element : (at : _) (of : NumType) (cells : SliceTree) (index : NumTree) (n : ℕ) → well_num (context_of b) (element at of cells index) ≡ true → num_refusal fs false (element at of cells index) ≡ None
          → IsOf of n → PutIn (to_element at of cells index) (num n) vars
      put-element at of cells index n h e k =
          let x = index-in at of cells index h e in
          let p = and_parts (is_whole_number (element at of cells index)) _ h in
          let q = and_parts (same_num_type of (element_type cells)) _ p.1 in
          let r = and_parts (well_slice (context_of b) cells) _ q.1 in
          let y : IsSpanOf b.within shape (element_type cells) x.0 = span-typed R shape b vars lawful cells x.0 r.0 x.2 in
          let q1 = and_parts (nat_eq of.bits (element_type cells).bits) _ q.0 in
          let q2 = and_parts (nat_eq of.low (element_type cells).low) _ q1.1 in
          let low : of.low ≡ (element_type cells).low = grind (arith, nat_tests, q2.0) in
          let high : of.high ≡ (element_type cells).high = grind (arith, nat_tests, q2.1) in
          let fits : IsOf (element_type cells) n = record { above = omega (arith, low, k.above); below = omega (arith, high, k.below) } in
          let put : CellsPut x.0.store (λ xs. slice_set xs (x.0.from + x.1) n) = cells-put (element_type cells) x.0.store (λ xs. slice_set xs (x.0.from + x.1) n) y.has (set-kept (element_type cells) x.0.store (x.0.from + x.1) n y.has fits) in
          let inside : nat_le (suc x.1) x.0.count ≡ true = grind (arith, nat_tests, x.4) in
          let goes : fits_store x.0.store n ≡ true = store-fits b.within shape (element_type cells) x.0.store n y.has fits in
          record {
            after = record vars { world = with_cells x.0.store (λ xs. slice_set xs (x.0.from + x.1) n) vars.world };
            is = rw (in-range of n k, x.2, x.3, inside, goes) refl;
            lawful = put.fine;
            agree = put.agrees;
          }

      pub put : (target : Target) (v : Value) → well_target (context_of b) target ≡ true → IsFor b.within shape target v → target_refusal fs target ≡ None → PutIn target v vars
      put (to_number at of path) (num n) h k e =
          let p = and_parts (may_write b.method.mark path) _ h in
          let q = and_parts (is_whole_number (read at of path)) _ p.1 in
          let r = and_parts (is_range of) _ q.1 in
          let t = typed (is_number of) (type_at (context_of b) path) refl r.1 in
          let x : PathPut path (num n) = path-put path t.0 (num n) p.0 t.1 (number-of-type of t.0 n t.2 k) in
          record { after = set_path b path (num n) vars; is = rw (in-range of n k) refl; lawful = x.fine; agree = x.agrees }
      put (to_element at of cells index) (num n) h k e = put-element at of cells index n h e k
      put (to_flag at path) (truth_value v) h k e =
          let p = and_parts (may_write b.method.mark path) _ h in
          let t = typed is_flag (type_at (context_of b) path) refl p.1 in
          let x : PathPut path (truth_value v) = path-put path t.0 (truth_value v) p.0 t.1 (flag-of-type t.0 v t.2) in
          record { after = set_path b path (truth_value v) vars; is = refl; lawful = x.fine; agree = x.agrees }
      put (to_status at path) (status_number n) h k e =
          let p = and_parts (may_write b.method.mark path) _ h in
          let t = typed is_status (type_at (context_of b) path) refl p.1 in
          let x : PathPut path (status_number n) = path-put path t.0 (status_number n) p.0 t.1 (status-of-type t.0 n t.2) in
          record { after = set_path b path (status_number n) vars; is = refl; lawful = x.fine; agree = x.agrees }
      put (to_slice at bits path) (span xs) h k e =
          let p = and_parts (may_write b.method.mark path) _ h in
          let t = typed (is_slice bits) (type_at (context_of b) path) refl p.1 in
          let x : PathPut path (span xs) = path-put path t.0 (span xs) p.0 t.1 (slice-of-type bits t.0 xs t.2 k) in
          record { after = set_path b path (span xs) vars; is = refl; lawful = x.fine; agree = x.agrees }
      put to_nothing v h k e = record { after = vars; is = refl; lawful = lawful; agree = refl }
      put target v h k e = absurd k

    -- What a variable then is.
    pub path-reads : (path : Path) (ty : Ty) (n : ℕ) → may_write b.method.mark path ≡ true → type_at (context_of b) path ≡ Some ty → (state_of b (set_path b path (num n) vars)).number_at path ≡ Some n
    path-reads (local m) ty n w h =
        let found = lawful.locals.each m ty h in
        rw (updated-at (λ _. num n) m vars.locals found.0 found.1) refl
    path-reads (field m) ty n w h =
        let old : FieldHas R shape b vars.world m ty = field-has R shape b vars.world m ty lawful.world lawful.receiver h in
        rw (held-changed b.object m (λ _. held_num n) vars.world, old.is) refl
    path-reads (arg m) ty n w h = absurd (cc (w))
