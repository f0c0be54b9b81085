-- Statuses of a package in values, in what stands in struct states, and in the statements of typed methods: each is one of the
-- package's.
use Rattle.std.proofs.Common.{◌≡◌, ℕ, zero, suc, ◌+◌, ◌<◌, true, List, [], ◌∷◌, length, Option, Some, None, refl, subst, arith}
use Rattle.std.specs.Prelude.{slice_get, slice_set, is_some}
use Rattle.std.specs.List.{AllByRecursion, list_all}
use Rattle.std.proofs.lemmas.Bool.{and_parts}
use Rattle.wf_base.specs.declared.marks.Mark.{Mark}
use Rattle.wf_base.specs.declared.marks.Mark.TheVariants.{Pure, Impure, Coroutine}
use Rattle.wf_base.specs.BaseOps.{Buffer}
use Rattle.wf_ast.specs.declared.types.Ty.{Ty}
use Rattle.wf_ast.specs.declared.types.Ty.TheVariants as types
use Rattle.wf_ast.specs.TypedTree.{Path, local, field, arg, StatusTree, status, held, no_status, ValueTree, numeric, logical, state, elements, io, lost, Target, to_number, to_element, to_flag, to_status, to_slice, to_nothing, Simple, assign, await, perform, invoke, break_from, continue_in, give_back, yield, claim, Block, end, plain, choose, loop}
use Rattle.wf_ast.specs.TypedPackage.{Variable, MethodTree, PackageTree}
use Rattle.wf_ast.specs.Value.{Store, nowhere, host_array, field_array, Span, Value, num, truth_value, status_number, span, same_truth, value, span_of, status_value, value_of}
use Rattle.wf_ast.specs.Value as values
use Rattle.wf_base.specs.Effects.{allows}
use Rattle.wf_ast.specs.WellTyped.{Context, breaks, calls_method, same_mark, fits_type, fit_types, is_operator, is_suspension, number_of, well_assigned, well_block, well_cond, well_invoked, well_returned, well_simple, well_status}
use Rattle.wf_meaning.specs.SourceState.{Behind, stop, behind_if, again, Held, held_num, held_truth, held_status, held_cells, held_part, Object, Remaining}
use Rattle.wf_meaning.specs.World.{World, Body, Vars, updated, with_object, with_field, held_at, held_of, value_held, value_at, as_status, with_cells, with_buffer, change_held, view, set_path, set_element, put_value}
use Rattle.wf_meaning.proofs.Lists2.{all_at, all_updated, and_then_made, map_made, only_if_made, some_same, two_made}

some-below : {X : Type 0} (xs : List X) (n : ℕ) → is_some (slice_get xs n) ≡ true → n < length xs
some-below [] n e = absurd (cc (e))
some-below (x ∷ xs) zero e = omega arith
some-below (x ∷ xs) (suc n) e = let k = some-below xs n e in omega (arith, k)

module _ (p : PackageTree) where
  -- A status is one of the package's.
  abbrev pub IsStatus : ℕ → Type 0
  IsStatus n = n < length p.statuses

  abbrev pub ValueKnown : Value → Type 0
  ValueKnown (status_number n) = IsStatus n
  ValueKnown v = Unit {0}

  abbrev pub HeldKnown : Held → Type 0
  HeldKnown (held_status n) = IsStatus n
  HeldKnown h = Unit {0}

  -- The statuses that stand in statements.
  abbrev pub StatusKnown : StatusTree → Type 0
  StatusKnown (status at n) = IsStatus n
  StatusKnown t = Unit {0}

  abbrev pub TreeKnown : ValueTree → Type 0
  TreeKnown (state t) = StatusKnown t
  TreeKnown t = Unit {0}

  abbrev pub SimpleKnown : Simple → Type 0
  SimpleKnown (assign target op v) = TreeKnown v
  SimpleKnown (invoke at target keep mark called args) = AllByRecursion TreeKnown args
  SimpleKnown (give_back (Some v)) = TreeKnown v
  SimpleKnown (yield n) = IsStatus n
  SimpleKnown s = Unit {0}

  abbrev pub BlockKnown : Block → Type 0
  BlockKnown end = Unit {0}
  BlockKnown (plain site s rest) = SimpleKnown s × BlockKnown rest
  BlockKnown (choose site chained c a b rest) = BlockKnown a × BlockKnown b × BlockKnown rest
  BlockKnown (loop site head body rest) = BlockKnown body × BlockKnown rest

  abbrev pub BehindKnown : Behind → Type 0
  BehindKnown stop = Unit {0}
  BehindKnown (behind_if rest behind) = BlockKnown rest × BehindKnown behind
  BehindKnown (again site head body rest behind) = BlockKnown body × BlockKnown rest × BehindKnown behind

  pub record LeftKnown (left : Remaining) : Type 0 where
    pub locals : AllByRecursion ValueKnown left.locals
    pub block : BlockKnown left.block
    pub behind : BehindKnown left.behind

  abbrev pub EntryKnown : Option Remaining → Type 0
  EntryKnown None = Unit {0}
  EntryKnown (Some left) = LeftKnown left

  pub record ObjectKnown (o : Object) : Type 0 where
    pub fields : AllByRecursion HeldKnown o.fields
    pub remaining : AllByRecursion EntryKnown o.remaining

  pub record WorldKnown (w : World) : Type 0 where
    pub objects : AllByRecursion ObjectKnown w.objects

  pub record VarsKnown (vars : Vars) : Type 0 where
    pub locals : AllByRecursion ValueKnown vars.locals
    pub world : WorldKnown vars.world

  -- Changes of the world.
  pub object-known : (number : ℕ) (f : Object → Object) (w : World) → ((o : Object) → ObjectKnown o → ObjectKnown (f o)) → WorldKnown w → WorldKnown (with_object number f w)
  object-known number f w k h = record { objects = all_updated ObjectKnown f number w.objects k h.objects }

  pub field-known : (object n : ℕ) (f : Held → Held) (w : World) → ((x : Held) → HeldKnown x → HeldKnown (f x)) → WorldKnown w → WorldKnown (with_field object n f w)
  field-known object n f w k h = object-known object (λ o. record o { fields = updated f n o.fields }) w (λ o q. record { fields = all_updated HeldKnown f n o.fields k q.fields; remaining = q.remaining }) h

  pub cells-known : (store : Store) (f : List ℕ → List ℕ) (w : World) → WorldKnown w → WorldKnown (with_cells store f w)
  cells-known nowhere f w h = h
  cells-known (host_array a) f w h = record { objects = h.objects }
  cells-known (field_array object n) f w h = field-known object n (change_held f) w changed h
    where
      changed : (x : Held) → HeldKnown x → HeldKnown (change_held f x)
      changed (held_num m) k = tt
      changed (held_truth b) k = tt
      changed (held_status m) k = k
      changed (held_cells cells) k = tt
      changed (held_part part) k = tt

  pub buffer-known : (k : ℕ) (f : Buffer → Buffer) (w : World) → WorldKnown w → WorldKnown (with_buffer k f w)
  buffer-known k f w h = record { objects = h.objects }

  module _ (b : Body) (args : AllByRecursion ValueKnown b.args) (vars : Vars) (h : VarsKnown vars) where
    -- Values of expressions.
    field-value : (n : ℕ) (x : Held) (v : Value) → HeldKnown x → value_held b.object n x ≡ Some v → ValueKnown v
    field-value n (held_num m) v k e = let same : num m ≡ v = cc (e) in subst ValueKnown same tt
    field-value n (held_truth t) v k e = let same : truth_value t ≡ v = cc (e) in subst ValueKnown same tt
    field-value n (held_status s) v k e = let same : status_number s ≡ v = cc (e) in subst ValueKnown same k
    field-value n (held_cells cells) v k e = let same : span (record { store = field_array b.object n; from = 0; count = length cells }) ≡ v = cc (e) in subst ValueKnown same tt
    field-value n (held_part part) v k e = absurd (cc (e))

    at-known : (path : Path) (v : Value) → value_at b vars.locals vars.world path ≡ Some v → ValueKnown v
    at-known (local n) v e = all_at ValueKnown vars.locals n v h.locals e
    at-known (arg n) v e = all_at ValueKnown b.args n v args e
    at-known (field n) v e =
        let m = and_then_made (value_held b.object n) (held_at vars.world b.object n) v e in
        let o = and_then_made (λ (o : Object). slice_get o.fields n) (slice_get vars.world.objects b.object) m.x m.from in
        field-value n m.x v (all_at HeldKnown o.x.fields n m.x (all_at ObjectKnown vars.world.objects b.object o.x h.world.objects o.from).fields o.gives) m.gives

    status-of : (v : Value) (n : ℕ) → ValueKnown v → as_status v ≡ Some n → IsStatus n
    status-of (status_number m) n k e = let same : m ≡ n = cc (e) in subst IsStatus same k
    status-of v n k e = absurd (cc (e))

    status-known : (t : StatusTree) (n : ℕ) → StatusKnown t → status_value (view b vars.locals vars.world) t ≡ Some n → IsStatus n
    status-known (status at m) n k e = let same : m ≡ n = cc (e) in subst IsStatus same k
    status-known (held at path) n k e = let m = and_then_made as_status (value_at b vars.locals vars.world path) n e in status-of m.x n (at-known path m.x m.from) m.gives
    status-known no_status n k e = absurd (cc (e))

    pub value-known : (t : ValueTree) (v : Value) → TreeKnown t → value_of (view b vars.locals vars.world) t ≡ Some v → ValueKnown v
    value-known (numeric t) v k e = let m = map_made num _ v e in subst ValueKnown m.gives tt
    value-known (logical t) v k e = let m = map_made truth_value _ v e in subst ValueKnown m.gives tt
    value-known (state t) v k e = let m = map_made status_number (status_value (view b vars.locals vars.world) t) v e in subst ValueKnown m.gives (status-known t m.x k m.from)
    value-known (elements t) v k e = let m = map_made span _ v e in subst ValueKnown m.gives tt
    value-known (io at a) v k e = let m = map_made values.buffer _ v e in subst ValueKnown m.gives tt
    value-known lost v k e = absurd (cc (e))

    -- Writes.
    held-known : (v : Value) → ValueKnown v → HeldKnown (held_of v)
    held-known (num n) k = tt
    held-known (truth_value t) k = tt
    held-known (status_number n) k = k
    held-known (span s) k = tt
    held-known (values.buffer j) k = tt

    set-known : (path : Path) (v : Value) → ValueKnown v → VarsKnown (set_path b path v vars)
    set-known (local n) v k = record { locals = all_updated ValueKnown (λ _. v) n vars.locals (λ x y. k) h.locals; world = h.world }
    set-known (field n) v k = record { locals = h.locals; world = field-known b.object n (λ _. held_of v) vars.world (λ x y. held-known v k) h.world }
    set-known (arg n) v k = h

    made-known : (it after : Vars) → VarsKnown it → Some it ≡ Some after → VarsKnown after
    made-known it after k e = subst VarsKnown (some_same it after e) k

    element-known : (s : Span) (k n : ℕ) (after : Vars) → set_element s k n vars ≡ Some after → VarsKnown after
    element-known s k n after e = made-known _ after (record { locals = h.locals; world = cells-known s.store (λ xs. slice_set xs (s.from + k) n) vars.world h.world }) (only_if_made _ _ after e)

    pub put-known : (target : Target) (v : Value) (after : Vars) → ValueKnown v → put_value b target v vars ≡ Some after → VarsKnown after
    put-known (to_number at of path) (num n) after k e = made-known _ after (set-known path (num n) tt) (only_if_made _ _ after e)
    put-known (to_element at of cells index) (num n) after k e =
        let st = view b vars.locals vars.world in
        let m = two_made (λ xs k. set_element xs k n vars) (λ xs. value st index) (span_of st cells) after (only_if_made _ _ after e) in
        element-known m.x m.y n after m.gives
    put-known (to_flag at path) (truth_value t) after k e = made-known _ after (set-known path (truth_value t) tt) e
    put-known (to_status at path) (status_number n) after k e = made-known _ after (set-known path (status_number n) k) e
    put-known (to_slice at bits path) (span s) after k e = made-known _ after (set-known path (span s) tt) e
    put-known to_nothing v after k e = made-known vars after h e
    put-known target v after k e = absurd (cc (e))

  -- The statements of a method that keeps the rules of types.
  module _ (c : Context) (within : c.within ≡ p) where
    written-known : (t : StatusTree) → well_status c t ≡ true → StatusKnown t
    written-known (status at n) e = let P : PackageTree → Type 0 = λ p. n < length p.statuses in subst P within (some-below c.within.statuses n e)
    written-known (held at path) e = tt
    written-known no_status e = tt

    fitting-known : (ty : Ty) (v : ValueTree) → fits_type c ty v ≡ true → TreeKnown v
    fitting-known types.Status (state t) e = written-known t e
    fitting-known ty (numeric t) e = tt
    fitting-known ty (logical t) e = tt
    fitting-known ty (elements t) e = tt
    fitting-known ty (io at a) e = tt
    fitting-known ty lost e = tt
    fitting-known ty (state t) e = absurd (cc (e))

    args-known : (xs : List Variable) (vs : List ValueTree) → fit_types c xs vs ≡ true → AllByRecursion TreeKnown vs
    args-known [] [] e = tt
    args-known (x ∷ xs) (v ∷ vs) e = let both = and_parts (fits_type c x.ty v) (fit_types c xs vs) e in (fitting-known x.ty v both.0, args-known xs vs both.1)
    args-known xs vs e = absurd (cc (e))

    assigned-known : (target : Target) (v : ValueTree) → well_assigned c target v ≡ true → TreeKnown v
    assigned-known (to_status at path) (state t) e = written-known t (and_parts _ (well_status c t) (and_parts _ _ e).1).1
    assigned-known target (numeric t) e = tt
    assigned-known target (logical t) e = tt
    assigned-known target (elements t) e = tt
    assigned-known target (io at a) e = tt
    assigned-known target lost e = tt
    assigned-known target (state t) e = absurd (cc (e))

    returned-known : (mark : Mark) (gives : Option Ty) (v : Option ValueTree) → well_returned c mark gives v ≡ true → SimpleKnown (give_back v)
    returned-known mark gives None e = tt
    returned-known Coroutine gives (Some (state t)) e = written-known t e
    returned-known Pure (Some ty) (Some v) e = fitting-known ty v e
    returned-known Impure (Some ty) (Some v) e = fitting-known ty v e
    returned-known mark gives (Some v) e = absurd (cc (e))

    suspension-known : (n : ℕ) → is_suspension (slice_get c.within.statuses n) ≡ true → IsStatus n
    suspension-known n e = let P : PackageTree → Type 0 = λ p. n < length p.statuses in subst P within (some-below c.within.statuses n (there (slice_get c.within.statuses n) e))
      where
        there : (o : Option (List ℕ)) → is_suspension o ≡ true → is_some o ≡ true
        there (Some text) e = refl
        there None e = absurd (cc (e))

    simple-known : (loops : List ℕ) (s : Simple) → well_simple c loops s ≡ true → SimpleKnown s
    simple-known loops (assign target None v) e = assigned-known target v e
    simple-known loops (assign target (Some op) v) e = assigned-known target v (and_parts (well_assigned c target v) (is_operator op v) e).0
    simple-known loops (await at target a call) e = tt
    simple-known loops (perform at target call) e = tt
    simple-known loops (invoke at target keep mark called args) e = by (slice_get c.within.methods (number_of called)) e
      where
        by : (o : Option MethodTree) → well_invoked c target keep mark called args o ≡ true → AllByRecursion TreeKnown args
        by None e = absurd (cc (e))
        by (Some callee) e =
            let f = and_parts (same_mark mark callee.mark) _ e in
            let g = and_parts (allows c.method.mark mark) _ f.1 in
            let i = and_parts (calls_method c called callee) _ g.1 in
            args-known callee.args args (and_parts (fit_types c callee.args args) _ i.1).0
    simple-known loops (break_from w) e = tt
    simple-known loops (continue_in w) e = tt
    simple-known loops (give_back v) e = returned-known c.method.mark c.method.gives v e
    simple-known loops (yield n) e = suspension-known n (and_parts _ _ e).1
    simple-known loops (claim goal by) e = tt

    pub block-known : (loops : List ℕ) (block : Block) → well_block c loops block ≡ true → BlockKnown block
    block-known loops end e = tt
    block-known loops (plain site s rest) e = let both = and_parts (well_simple c loops s) (well_block c loops rest) e in (simple-known loops s both.0, block-known loops rest both.1)
    block-known loops (choose site chained t a d rest) e =
        let f = and_parts (well_cond c t) _ e in
        let g = and_parts (well_block c loops a) _ f.1 in
        let i = and_parts (well_block c loops d) (well_block c loops rest) g.1 in
        (block-known loops a g.0, block-known loops d i.0, block-known loops rest i.1)
    block-known loops (loop site head body rest) e =
        let f = and_parts (well_cond c head.cond) _ e in
        let i = and_parts (list_all (λ it. well_cond c it.1) head.clauses) _ f.1 in
        let j = and_parts (same_truth head.is_left (breaks site.number body)) _ i.1 in
        let g = and_parts (well_block c (site.number ∷ loops) body) (well_block c loops rest) j.1 in
        (block-known (site.number ∷ loops) body g.0, block-known loops rest g.1)
