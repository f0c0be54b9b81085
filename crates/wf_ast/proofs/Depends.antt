-- An expression's value depends only on what the expression mentions.
use Rattle.std.proofs.Common.{◌≡◌, ℕ, ◌+◌, Bool, true, false, not, ◌&&◌, ◌||◌, refl, ap, nat_eq, nat_lt}
use Rattle.std.specs.Prelude.{slice_get, option_and_then, option_map, if◌then◌else◌}
use Rattle.wf_text.specs.StatusText.{category_of}
use Rattle.wf_base.specs.BaseOps.{Buffer}
use Rattle.wf_ast.specs.declared.things.Thing.{Thing}
use Rattle.wf_ast.specs.TypedTree.{NumTree, number, read, element, link, convert, length_of, asked, SliceTree, slice, array, cut, EndTree, absent, present, StatusTree, status, held, no_status, CondTree, truth, flag, compare, same_status, junction, negation, closed, has_category}
use Rattle.wf_ast.specs.Value.{State, Span, value, span_of, end_value, applied, element_of, part_of, told, fitted, same_truth, same_category, compares, status_value, truth_of, only_if}
use Rattle.wf_ast.specs.Mentions.{is_element, num_mentions, slice_mentions, end_mentions, status_mentions, cond_mentions, AgreeBut}

neither : (a b : Bool) → (a || b) ≡ false → (a ≡ false) × (b ≡ false)
neither true b h = absurd (cc (h))
neither false b h = (refl, h)

module _ (x : Thing) (s s' : State) (agree : AgreeBut x s s') where
  same_element : is_element x ≡ false → (xs : Span) (k : ℕ) → element_of s xs k ≡ element_of s' xs k
  same_element h xs k = ap (λ cells. only_if (nat_lt k xs.count) (slice_get cells (xs.from + k))) (agree.elements h xs.store)

  mutual
    pub value_depends : (t : NumTree) → num_mentions x t ≡ false → value s t ≡ value s' t
    value_depends (number at n) h = refl
    value_depends (read at of p) h = agree.numbers p h
    value_depends (element at of cells index) h =
        let p = neither (is_element x) _ h in
        let q = neither (slice_mentions x cells) _ p.1 in
        let a = span_depends cells q.0 in
        let b = value_depends index q.1 in
        λ i. option_and_then (λ xs. option_and_then (λ k. same_element p.0 xs k i) (b i)) (a i)
    value_depends (link at sign op bits joined a b) h =
        let p = neither (num_mentions x a) _ h in
        let m = value_depends a p.0 in
        let n = value_depends b p.1 in
        λ i. option_and_then (λ k. option_and_then (applied op bits k) (n i)) (m i)
    value_depends (convert at sign bits a) h = ap (option_and_then (fitted bits)) (value_depends a h)
    value_depends (length_of at cells) h = ap (option_map (λ (xs : Span). xs.count)) (span_depends cells h)
    value_depends (asked at question a) h = ap (option_and_then (told question)) (agree.buffers a h)

    pub span_depends : (t : SliceTree) → slice_mentions x t ≡ false → span_of s t ≡ span_of s' t
    span_depends (slice at bits p) h = agree.spans p h
    span_depends (array at of count p) h = agree.spans p h
    span_depends (cut at cells from to) h =
        let p = neither (slice_mentions x cells) _ h in
        let q = neither (end_mentions x from) _ p.1 in
        let a = span_depends cells p.0 in
        λ i. option_and_then (λ xs. option_and_then (λ n. option_and_then (part_of xs n) (end_depends to q.1 xs.count i)) (end_depends from q.0 0 i)) (a i)

    end_depends : (t : EndTree) → end_mentions x t ≡ false → (default : ℕ) → end_value s default t ≡ end_value s' default t
    end_depends absent h default = refl
    end_depends (present t) h default = value_depends t h

  state_depends : (t : StatusTree) → status_mentions x t ≡ false → status_value s t ≡ status_value s' t
  state_depends (status at n) h = refl
  state_depends (held at p) h = agree.statuses p h
  state_depends no_status h = refl

  pub cond_depends : (t : CondTree) → cond_mentions x t ≡ false → truth_of s t ≡ truth_of s' t
  cond_depends (truth at b) h = refl
  cond_depends (flag at p) h = agree.flags p h
  cond_depends (compare at sign a op b) h =
      let p = neither (num_mentions x a) _ h in
      let m = value_depends a p.0 in
      let n = value_depends b p.1 in
      λ i. option_and_then (λ k. option_map (compares op k) (n i)) (m i)
  cond_depends (same_status at sign a one b) h =
      let p = neither (status_mentions x a) _ h in
      let m = state_depends a p.0 in
      let n = state_depends b p.1 in
      λ i. option_and_then (λ k. option_map (λ j. same_truth one (nat_eq k j)) (n i)) (m i)
  cond_depends (junction at both joined a b) h =
      let p = neither (cond_mentions x a) _ h in
      let m = cond_depends a p.0 in
      let n = cond_depends b p.1 in
      λ i. option_and_then (λ t. option_map (λ u. if both then t && u else t || u) (n i)) (m i)
  cond_depends (negation at a) h = ap (option_map not) (cond_depends a h)
  cond_depends (closed at a) h = ap (option_map (λ (b : Buffer). b.closed)) (agree.buffers a h)
  cond_depends (has_category at a category) h =
      let m = state_depends a h in
      λ i. option_map (λ n. same_category category (category_of (agree.texts n i))) (m i)
