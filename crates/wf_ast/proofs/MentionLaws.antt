-- What an expression mentions is found from its parts.
use Rattle.std.proofs.Common.{◌≡◌, ℕ, zero, suc, ◌+◌, ◌≤◌, Bool, true, false, ◌&&◌, ◌||◌, List, [], ◌∷◌, length, map, drop, Option, Some, None, refl, sym, ap, ◌∙◌, subst, arith, nat_eq}
use Rattle.std.specs.Prelude.{slice_get, is_some}
use Rattle.std.specs.List.{list_all}
use Rattle.wf_text.specs.declared.place.Place.{Place}
use Rattle.wf_base.specs.declared.marks.Mark.TheVariants.{Pure}
use Rattle.wf_base.specs.declared.base_methods.BaseSig.{BaseSig}
use Rattle.wf_base.specs.declared.base_methods.BaseSig.TheVariants as sigs
use Rattle.wf_base.specs.BaseTable.{row_of}
use Rattle.wf_ast.specs.declared.numbers.ExprId.{ExprId}
use Rattle.wf_ast.specs.declared.things.Thing.{Thing}
use Rattle.wf_ast.specs.declared.things.Thing.TheVariants as things
use Rattle.wf_ast.specs.declared.types.Ty.{Ty}
use Rattle.wf_ast.specs.declared.types.Ty.TheVariants as types
use Rattle.wf_ast.specs.declared.typed_code.Expr.{Expr}
use Rattle.wf_ast.specs.declared.typed_code.Expr.TheVariants as exprs
use Rattle.wf_ast.specs.declared.typed_nodes.TypedNodes.{TypedNodes}
use Rattle.wf_ast.specs.TypedTree.{local, field, arg, Arith, Order, equal, differs, NumTree, link, CondTree, junction, ValueTree, numeric, logical, state, elements, io}
use Rattle.wf_ast.specs.TypedTrees.{OperatorKind, arithmetic, ordering, joining, operator_kind, tree_of, type_of_node, constant_of_node, place_of_node, signs_of_node, made, named, num_type, num_chain, cond_chain, chain_of, comparison, first_sign, answer_of, num_in, cond_in, status_in, slice_in, io_in, end_in}
use Rattle.wf_ast.specs.TypedInvariant.{parts_of, is_numeric, is_logical, is_list, is_tree_of, parts_fit, kind_fits, chain_fits, all_numeric, cut_parts, optional_numeric, has_kind}
use Rattle.wf_ast.specs.WellTyped.{same_mark}
use Rattle.wf_ast.specs.Mentions.{path_is, slice_is, is_element, num_mentions, slice_mentions, end_mentions, status_mentions, cond_mentions, mentions}
use Rattle.wf_ast.specs.SameNodes.{local_is, head_mentions, any_mentions}
use Rattle.wf_ast.proofs.Arena.{both_true}
use Rattle.wf_ast.proofs.SameChains.{is_num_tree, is_cond_tree, is_state_tree, is_list_tree, is_io_tree, num_tree, cond_tree, list_tree}
use Rattle.wf_ast.proofs.SameParts.{compared, kinds_compared, on_reader, on_writer, on_status, on_slice, on_array}
use Rattle.wf_ast.proofs.SameLaws.{Lent, tree_at, kinds_at}

or_false : (a : Bool) → (a || false) ≡ a
or_false true = refl
or_false false = refl

or_assoc : (a b c : Bool) → ((a || b) || c) ≡ (a || (b || c))
or_assoc true b c = refl
or_assoc false b c = refl

one_part : (a b : Bool) → a ≡ b → a ≡ (b || false)
one_part a b e = e ∙ sym (or_false b)

-- What trees of one kind mention.
num_seen : (x : Thing) (t : ValueTree) → is_num_tree t ≡ true → num_mentions x (num_in t) ≡ mentions t x
num_seen x (numeric t) h = refl
num_seen x t h = absurd (cc (h))

cond_seen : (x : Thing) (t : ValueTree) → is_cond_tree t ≡ true → cond_mentions x (cond_in t) ≡ mentions t x
cond_seen x (logical t) h = refl
cond_seen x t h = absurd (cc (h))

state_seen : (x : Thing) (t : ValueTree) → is_state_tree t ≡ true → status_mentions x (status_in t) ≡ mentions t x
state_seen x (state t) h = refl
state_seen x t h = absurd (cc (h))

list_seen : (x : Thing) (t : ValueTree) → is_list_tree t ≡ true → slice_mentions x (slice_in t) ≡ mentions t x
list_seen x (elements t) h = refl
list_seen x t h = absurd (cc (h))

io_seen : (x : Thing) (t : ValueTree) → is_io_tree t ≡ true → path_is x (arg (io_in t)) ≡ mentions t x
io_seen x (io at a) h = refl
io_seen x t h = absurd (cc (h))

-- Variables.
either_way : (a : Bool) → a ≡ ((a || a) || false)
either_way true = refl
either_way false = refl

alone : (a : Bool) → a ≡ ((a || false) || false)
alone true = refl
alone false = refl

slice_alone : (x : Thing) (n : ℕ) → slice_is x (local n) ≡ ((path_is x (local n) || (true && slice_is x (local n))) || false)
slice_alone (things.Local m) n = either_way (nat_eq m.0 n)
slice_alone things.SliceLocals n = refl
slice_alone x n = refl

field_slice : (x : Thing) (n : ℕ) → slice_is x (field n) ≡ path_is x (field n)
field_slice things.SliceLocals n = refl
field_slice x n = refl

arg_slice : (x : Thing) (n : ℕ) → slice_is x (arg n) ≡ path_is x (arg n)
arg_slice things.SliceLocals n = refl
arg_slice x n = refl

module _ (nodes : TypedNodes) (look : ExprId → ValueTree) (at : Place) (signs : List Place) (x : Thing) where
  local_mentions : (ty : Ty) (n : ℕ) → kind_fits nodes ty (exprs.Local (record { 0 = n })) ≡ true → mentions (named at ty (local n)) x ≡ (local_is x ty n || false)
  local_mentions (types.Num width lo hi) n h = alone (path_is x (local n))
  local_mentions types.Flag n h = alone (path_is x (local n))
  local_mentions types.Status n h = alone (path_is x (local n))
  local_mentions (types.Slice width) n h = slice_alone x n
  local_mentions (types.Array width lo hi count) n h = slice_alone x n
  local_mentions ty n h = absurd (cc (h))

  field_mentions : (ty : Ty) (n : ℕ) → kind_fits nodes ty (exprs.Field (record { 0 = n })) ≡ true → mentions (named at ty (field n)) x ≡ (path_is x (field n) || false)
  field_mentions (types.Num width lo hi) n h = sym (or_false (path_is x (field n)))
  field_mentions types.Flag n h = sym (or_false (path_is x (field n)))
  field_mentions types.Status n h = sym (or_false (path_is x (field n)))
  field_mentions (types.Slice width) n h = one_part _ (path_is x (field n)) (field_slice x n)
  field_mentions (types.Array width lo hi count) n h = one_part _ (path_is x (field n)) (field_slice x n)
  field_mentions ty n h = absurd (cc (h))

  arg_mentions : (ty : Ty) (n : ℕ) → kind_fits nodes ty (exprs.Arg (record { 0 = n })) ≡ true → mentions (named at ty (arg n)) x ≡ (path_is x (arg n) || false)
  arg_mentions (types.Num width lo hi) n h = sym (or_false (path_is x (arg n)))
  arg_mentions types.Flag n h = sym (or_false (path_is x (arg n)))
  arg_mentions (types.Slice width) n h = one_part _ (path_is x (arg n)) (arg_slice x n)
  arg_mentions (types.Array width lo hi count) n h = one_part _ (path_is x (arg n)) (arg_slice x n)
  arg_mentions types.Reader n h = sym (or_false (path_is x (arg n)))
  arg_mentions types.Writer n h = sym (or_false (path_is x (arg n)))
  arg_mentions ty n h = absurd (cc (h))

  -- Chains.
  num_chain_mentions : (op : Arith) (bits : ℕ) (joined : Bool) (s : NumTree) (es : List ExprId) (signs : List Place) → all_numeric nodes es ≡ true
      → list_all (λ part. is_tree_of (type_of_node nodes part.0) (look part)) es ≡ true
      → num_mentions x (num_chain at op bits joined s (map look es) signs) ≡ (num_mentions x s || any_mentions look x es)
  num_chain_mentions op bits joined s [] signs h f = sym (or_false (num_mentions x s))
  num_chain_mentions op bits joined s (e ∷ es) [] h f =
      let a = both_true (is_numeric (type_of_node nodes e.0)) _ h in
      let b = both_true (is_tree_of (type_of_node nodes e.0) (look e)) _ f in
      num_chain_mentions op bits true (link at at op bits joined s (num_in (look e))) es [] a.1 b.1
      ∙ rw (num_seen x (look e) (num_tree (type_of_node nodes e.0) (look e) a.0 b.0)) (or_assoc (num_mentions x s) (mentions (look e) x) (any_mentions look x es))
  num_chain_mentions op bits joined s (e ∷ es) (sign ∷ signs) h f =
      let a = both_true (is_numeric (type_of_node nodes e.0)) _ h in
      let b = both_true (is_tree_of (type_of_node nodes e.0) (look e)) _ f in
      num_chain_mentions op bits true (link at sign op bits joined s (num_in (look e))) es signs a.1 b.1
      ∙ rw (num_seen x (look e) (num_tree (type_of_node nodes e.0) (look e) a.0 b.0)) (or_assoc (num_mentions x s) (mentions (look e) x) (any_mentions look x es))

  cond_chain_mentions : (both joined : Bool) (s : CondTree) (es : List ExprId) → list_all (λ part. is_logical (type_of_node nodes part.0)) es ≡ true
      → list_all (λ part. is_tree_of (type_of_node nodes part.0) (look part)) es ≡ true
      → cond_mentions x (cond_chain at both joined s (map look es)) ≡ (cond_mentions x s || any_mentions look x es)
  cond_chain_mentions both joined s [] h f = sym (or_false (cond_mentions x s))
  cond_chain_mentions both joined s (e ∷ es) h f =
      let a = both_true (is_logical (type_of_node nodes e.0)) _ h in
      let b = both_true (is_tree_of (type_of_node nodes e.0) (look e)) _ f in
      cond_chain_mentions both true (junction at both joined s (cond_in (look e))) es a.1 b.1
      ∙ rw (cond_seen x (look e) (cond_tree (type_of_node nodes e.0) (look e) a.0 b.0)) (or_assoc (cond_mentions x s) (mentions (look e) x) (any_mentions look x es))

  comparison_mentions : (sign : Place) (op : Order) (t u : ValueTree) → compared t u op ≡ true → mentions (comparison at sign op t u) x ≡ (mentions t x || (mentions u x || false))
  comparison_mentions sign equal (numeric a) (numeric b) h = ap (λ c. num_mentions x a || c) (sym (or_false (num_mentions x b)))
  comparison_mentions sign differs (numeric a) (numeric b) h = ap (λ c. num_mentions x a || c) (sym (or_false (num_mentions x b)))
  comparison_mentions sign op (numeric a) (numeric b) h = ap (λ c. num_mentions x a || c) (sym (or_false (num_mentions x b)))
  comparison_mentions sign equal (state a) (state b) h = ap (λ c. status_mentions x a || c) (sym (or_false (status_mentions x b)))
  comparison_mentions sign differs (state a) (state b) h = ap (λ c. status_mentions x a || c) (sym (or_false (status_mentions x b)))
  comparison_mentions sign op (state a) (state b) h = absurd (cc (h))
  comparison_mentions sign op t u h = absurd (cc (h))

  chain_mentions : (sort : OperatorKind) (es : List ExprId) (ty : Ty) → chain_fits nodes sort es ty ≡ true
      → list_all (λ part. is_tree_of (type_of_node nodes part.0) (look part)) es ≡ true
      → mentions (chain_of at signs ty sort (map look es)) x ≡ any_mentions look x es
  chain_mentions (arithmetic op) (e ∷ e2 ∷ es) ty h f =
      let a = both_true (is_numeric (type_of_node nodes e.0)) _ (both_true (is_numeric ty) _ h).1 in
      let b = both_true (is_tree_of (type_of_node nodes e.0) (look e)) _ f in
      num_chain_mentions op (num_type ty).bits false (num_in (look e)) (e2 ∷ es) signs a.1 b.1
      ∙ ap (λ c. c || any_mentions look x (e2 ∷ es)) (num_seen x (look e) (num_tree (type_of_node nodes e.0) (look e) a.0 b.0))
  chain_mentions (joining both) (e ∷ e2 ∷ es) ty h f =
      let a = both_true (is_logical (type_of_node nodes e.0)) _ (both_true (is_logical ty) _ h).1 in
      let b = both_true (is_tree_of (type_of_node nodes e.0) (look e)) _ f in
      cond_chain_mentions both false (cond_in (look e)) (e2 ∷ es) a.1 b.1
      ∙ ap (λ c. c || any_mentions look x (e2 ∷ es)) (cond_seen x (look e) (cond_tree (type_of_node nodes e.0) (look e) a.0 b.0))
  chain_mentions (ordering op) (e ∷ e2 ∷ []) ty h f =
      let a = (both_true (is_logical ty) _ h).1 in
      let b = both_true (is_tree_of (type_of_node nodes e.0) (look e)) _ f in
      let d = both_true (is_tree_of (type_of_node nodes e2.0) (look e2)) _ b.1 in
      comparison_mentions (first_sign at signs) op (look e) (look e2)
      (kinds_compared op (type_of_node nodes e.0) (type_of_node nodes e2.0) (look e) (look e2) a b.0 d.0)
  chain_mentions sort es ty h f = absurd (cc (h))

  -- Slices.
  end_seen : (e : ExprId) → is_numeric (type_of_node nodes e.0) ≡ true → is_tree_of (type_of_node nodes e.0) (look e) ≡ true → num_mentions x (num_in (look e)) ≡ mentions (look e) x
  end_seen e h f = num_seen x (look e) (num_tree (type_of_node nodes e.0) (look e) h f)

  cut_mentions : (base : ExprId) (from to : Option ExprId) → is_list (type_of_node nodes base.0) ≡ true → optional_numeric nodes from ≡ true → optional_numeric nodes to ≡ true
      → list_all (λ part. is_tree_of (type_of_node nodes part.0) (look part)) (cut_parts base from to) ≡ true
      → (slice_mentions x (slice_in (look base)) || (end_mentions x (end_in look from) || end_mentions x (end_in look to))) ≡ any_mentions look x (cut_parts base from to)
  cut_mentions base None None l p q f =
      let a = both_true (is_tree_of (type_of_node nodes base.0) (look base)) _ f in
      rw (list_seen x (look base) (list_tree (type_of_node nodes base.0) (look base) l a.0)) refl
  cut_mentions base None (Some e) l p q f =
      let a = both_true (is_tree_of (type_of_node nodes base.0) (look base)) _ f in
      let b = both_true (is_tree_of (type_of_node nodes e.0) (look e)) _ a.1 in
      rw (list_seen x (look base) (list_tree (type_of_node nodes base.0) (look base) l a.0), end_seen e q b.0) (ap (λ c. mentions (look base) x || c) (sym (or_false (mentions (look e) x))))
  cut_mentions base (Some d) None l p q f =
      let a = both_true (is_tree_of (type_of_node nodes base.0) (look base)) _ f in
      let b = both_true (is_tree_of (type_of_node nodes d.0) (look d)) _ a.1 in
      rw (list_seen x (look base) (list_tree (type_of_node nodes base.0) (look base) l a.0), end_seen d p b.0) refl
  cut_mentions base (Some d) (Some e) l p q f =
      let a = both_true (is_tree_of (type_of_node nodes base.0) (look base)) _ f in
      let b = both_true (is_tree_of (type_of_node nodes d.0) (look d)) _ a.1 in
      let g = both_true (is_tree_of (type_of_node nodes e.0) (look e)) _ b.1 in
      rw (list_seen x (look base) (list_tree (type_of_node nodes base.0) (look base) l a.0), end_seen d p b.0, end_seen e q g.0)
      (ap (λ c. mentions (look base) x || (mentions (look d) x || c)) (sym (or_false (mentions (look e) x))))

  -- Base methods.
  answer_mentions : (sig : BaseSig) (ty : Ty) (t : ValueTree) → same_mark (row_of sig).mark Pure ≡ true → has_kind (row_of sig).on ty ≡ true → is_tree_of ty t ≡ true
      → mentions (answer_of at sig t) x ≡ (mentions t x || false)
  answer_mentions sigs.ReaderLength ty t h on f = one_part _ (mentions t x) (io_seen x t (on_reader ty t on f))
  answer_mentions sigs.ReaderIsClosed ty t h on f = one_part _ (mentions t x) (io_seen x t (on_reader ty t on f))
  answer_mentions sigs.ReaderPosition ty t h on f = one_part _ (mentions t x) (io_seen x t (on_reader ty t on f))
  answer_mentions (sigs.Peek form) ty t h on f = one_part _ (mentions t x) (io_seen x t (on_reader ty t on f))
  answer_mentions sigs.WriterLength ty t h on f = one_part _ (mentions t x) (io_seen x t (on_writer ty t on f))
  answer_mentions sigs.WriterPosition ty t h on f = one_part _ (mentions t x) (io_seen x t (on_writer ty t on f))
  answer_mentions (sigs.SliceLength width) ty t h on f = one_part _ (mentions t x) (list_seen x t (on_slice width ty t on f))
  answer_mentions (sigs.ArrayLength width) ty t h on f = one_part _ (mentions t x) (list_seen x t (on_array width ty t on f))
  answer_mentions sigs.IsOk ty t h on f = one_part _ (mentions t x) (state_seen x t (on_status ty t on f))
  answer_mentions sigs.IsNote ty t h on f = one_part _ (mentions t x) (state_seen x t (on_status ty t on f))
  answer_mentions sigs.IsSuspension ty t h on f = one_part _ (mentions t x) (state_seen x t (on_status ty t on f))
  answer_mentions sigs.IsError ty t h on f = one_part _ (mentions t x) (state_seen x t (on_status ty t on f))
  answer_mentions sig ty t h on f = absurd (cc (h))

  made_mentions : (ty : Ty) (e : Expr) → kind_fits nodes ty e ≡ true → parts_fit nodes look e ≡ true → mentions (made look at signs ty e) x ≡ (head_mentions x ty e || any_mentions look x (parts_of e))
  made_mentions ty (exprs.Number v) h f = absurd (cc (h))
  made_mentions ty (exprs.Const v) h f = absurd (cc (h))
  made_mentions ty (exprs.Status n) h f = refl
  made_mentions ty (exprs.Truth b) h f = refl
  made_mentions ty (exprs.Local n) h f = local_mentions ty n.0 h
  made_mentions ty (exprs.Field n) h f = field_mentions ty n.0 h
  made_mentions ty (exprs.Arg n) h f = arg_mentions ty n.0 h
  made_mentions ty (exprs.Index base index) h f =
      let l = both_true (is_list (type_of_node nodes base.0)) _ (both_true (is_numeric ty) _ h).1 in
      let a = both_true (is_tree_of (type_of_node nodes base.0) (look base)) _ f in
      let b = both_true (is_tree_of (type_of_node nodes index.0) (look index)) _ a.1 in
      rw (list_seen x (look base) (list_tree (type_of_node nodes base.0) (look base) l.0 a.0), end_seen index l.1 b.0)
      (ap (λ c. is_element x || (mentions (look base) x || c)) (sym (or_false (mentions (look index) x))))
  made_mentions ty (exprs.Cut base from to) h f =
      let l = both_true (is_list (type_of_node nodes base.0)) _ (both_true (is_list ty) _ h).1 in
      let p = both_true (optional_numeric nodes from) _ l.1 in
      cut_mentions base from to l.0 p.0 p.1 f
  made_mentions ty (exprs.Chain op parts) h f = chain_mentions (operator_kind op) parts ty h f
  made_mentions ty (exprs.Convert of to) h f =
      let l = both_true (is_numeric ty) _ h in
      let a = both_true (is_tree_of (type_of_node nodes of.0) (look of)) _ f in
      one_part _ (mentions (look of) x) (num_seen x (look of) (num_tree (type_of_node nodes of.0) (look of) l.1 a.0))
  made_mentions ty (exprs.Not of) h f =
      let l = both_true (is_logical ty) _ h in
      let a = both_true (is_tree_of (type_of_node nodes of.0) (look of)) _ f in
      one_part _ (mentions (look of) x) (cond_seen x (look of) (cond_tree (type_of_node nodes of.0) (look of) l.1 a.0))
  made_mentions ty (exprs.Base on sig) h f =
      let l = both_true (same_mark (row_of sig).mark Pure) _ h in
      let p = both_true (has_kind (row_of sig).on (type_of_node nodes on.0)) _ l.1 in
      let a = both_true (is_tree_of (type_of_node nodes on.0) (look on)) _ f in
      answer_mentions sig (type_of_node nodes on.0) (look on) l.0 p.0 a.0

-- Going through the parts.
module _ (look : ExprId → ValueTree) (x : Thing) where
  mentions_next : (es : List ExprId) (i : ℕ) (p : ExprId) → slice_get es i ≡ Some p → any_mentions look x (drop i es) ≡ (mentions (look p) x || any_mentions look x (drop (i + 1) es))
  mentions_next [] i p h = absurd (cc (h))
  mentions_next (e ∷ es) zero p h = let a : e ≡ p = cc (h) in rw a refl
  mentions_next (e ∷ es) (suc i) p h =
      let n : suc (i + 1) ≡ suc i + 1 = omega arith in
      let P : ℕ → Type 0 = λ j. any_mentions look x (drop i es) ≡ (mentions (look p) x || any_mentions look x (drop j (e ∷ es))) in
      subst P n (mentions_next es i p h)

  mentions_behind : (es : List ExprId) (i : ℕ) → length es ≤ i → any_mentions look x (drop i es) ≡ false
  mentions_behind [] zero h = refl
  mentions_behind [] (suc i) h = refl
  mentions_behind (e ∷ es) zero h = absurd (omega (arith, h))
  mentions_behind (e ∷ es) (suc i) h = mentions_behind es i (omega (arith, h))

or_true : (a : Bool) → (a || true) ≡ true
or_true true = refl
or_true false = refl

pub no_constant : (nodes : TypedNodes) (e : ExprId) (found : Option ℕ) → found ≡ constant_of_node nodes e.0 → is_some found ≡ false → constant_of_node nodes e.0 ≡ None
no_constant nodes e None same h = sym same
no_constant nodes e (Some n) same h = absurd (cc (h))

module _ (nodes : TypedNodes) (e : ExprId) (expr : Expr) (it : Lent nodes e expr) (x : Thing) where
  abbrev seen : Bool
  seen = mentions (tree_of nodes e) x

  pub constant_mentions : (found : Option ℕ) → found ≡ constant_of_node nodes e.0 → is_some found ≡ true → false ≡ seen
  constant_mentions (Some n) same h = sym (rw (tree_at nodes e expr it (Some n) (sym same)) refl)
  constant_mentions None same h = absurd (cc (h))

  module _ (h : constant_of_node nodes e.0 ≡ None) where
    node_mentions : seen ≡ (head_mentions x (type_of_node nodes e.0) expr || any_mentions (tree_of nodes) x (parts_of expr))
    node_mentions =
        rw (tree_at nodes e expr it None h)
        (made_mentions nodes (tree_of nodes) (place_of_node nodes e.0) (signs_of_node nodes e.0) x (type_of_node nodes e.0) expr (kinds_at nodes e expr it h) it.parts)

    pub head_seen : (ty : Ty) → ty ≡ type_of_node nodes e.0 → head_mentions x ty expr ≡ true → true ≡ seen
    head_seen ty same d =
        let P : Ty → Type 0 = λ ty. head_mentions x ty expr ≡ true in
        sym (node_mentions ∙ ap (λ c. c || any_mentions (tree_of nodes) x (parts_of expr)) (subst P same d))

    -- The parts that are left mention it where any does.
    abbrev pub Left : ℕ → Type 0
    Left i = any_mentions (tree_of nodes) x (drop i (parts_of expr)) ≡ any_mentions (tree_of nodes) x (parts_of expr)

    module _ (i : ℕ) (p : ExprId) (is : slice_get (parts_of expr) i ≡ Some p) (left : Left i) where
      pub part_seen : mentions (tree_of nodes p) x ≡ true → true ≡ seen
      part_seen d =
          let head = head_mentions x (type_of_node nodes e.0) expr in
          let f : any_mentions (tree_of nodes) x (parts_of expr) ≡ true =
          sym left ∙ mentions_next (tree_of nodes) x (parts_of expr) i p is ∙ ap (λ c. c || any_mentions (tree_of nodes) x (drop (i + 1) (parts_of expr))) d in
          sym (node_mentions ∙ ap (λ c. head || c) f ∙ or_true head)

      pub part_unseen : mentions (tree_of nodes p) x ≡ false → Left (i + 1)
      part_unseen d =
          sym (mentions_next (tree_of nodes) x (parts_of expr) i p is ∙ ap (λ c. c || any_mentions (tree_of nodes) x (drop (i + 1) (parts_of expr))) d) ∙ left

    pub nothing_seen : (ty : Ty) → ty ≡ type_of_node nodes e.0 → head_mentions x ty expr ≡ false → (i : ℕ) → length (parts_of expr) ≤ i → Left i → false ≡ seen
    nothing_seen ty same d i long left =
        let P : Ty → Type 0 = λ ty. head_mentions x ty expr ≡ false in
        let all = sym left ∙ mentions_behind (tree_of nodes) x (parts_of expr) i long in
        sym (node_mentions ∙ rw (subst P same d, all) refl)
