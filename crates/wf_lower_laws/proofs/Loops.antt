-- Which loop a `break` or a `continue` names: the one round it with its number.
use Rattle.std.proofs.Common.{◌≡◌, ◌⊎◌, inl, inr, ℕ, Bool, true, false, ◌||◌, List, [], ◌∷◌, ◌++◌, Option, Some, None, nat_eq, refl, sym, ◌∙◌, subst, arith}
use Rattle.std.proofs.lemmas.Bool.Decides.{nat_tests}
use Rattle.std.proofs.lemmas.List.Folds.{list_any-append}
use Rattle.wf_ast.specs.TypedTree.{CondTree, Simple, break_from, continue_in, assign, await, perform, invoke, give_back, yield, claim, Site, Head, Block, end, plain, choose, loop}
use Rattle.wf_ast.specs.WellTyped.{breaks}
use Rattle.wf_lower_stmts.specs.Lower.{continues, Trail, top, within_if, in_loop, Loop, first_loop, this_loop, loop_in}
use Rattle.wf_lower_laws.proofs.Apart.{has, apart, neither, left_or, right_or, has_neither, same_number, apart_front, apart_back, apart_both}

-- The numbers of a block's loops, those inside it included.
abbrev pub loops_in : Block → List ℕ
loops_in end = []
loops_in (plain site s rest) = loops_in rest
loops_in (choose site chained c a b rest) = loops_in a ++ (loops_in b ++ loops_in rest)
loops_in (loop site head body rest) = loops_in body ++ site.number ∷ loops_in rest

-- The numbers of the loops that a trail stands in.
abbrev pub loops_of : Trail → List ℕ
loops_of top = []
loops_of (within_if passed rest t) = loops_of t
loops_of (in_loop site head body rest t) = site.number ∷ loops_of t

-- The trail stands in this loop.
abbrev pub Around : Loop → Trail → Type 0
Around it top = ⊥
Around it (within_if passed rest t) = Around it t
Around it (in_loop site head body rest t) = (it ≡ record { site = site; head = head; body = body; rest = rest; trail = t }) ⊎ Around it t

-- The loop with this number, of those that a trail stands in.
pub record Named (w : ℕ) (t : Trail) : Type 0 where
  pub it : Loop
  pub around : Around it t
  pub number : it.site.number ≡ w

pub named_loop : (w : ℕ) (t : Trail) → has (loops_of t) w ≡ true → Named w t
named_loop w top h = absurd (cc h)
named_loop w (within_if passed rest t) h = let n = named_loop w t h in record { it = n.it; around = n.around; number = n.number }
named_loop w (in_loop site head body rest t) h = by (nat_eq w site.number) refl (named_loop w t)
  where
    by : (b : Bool) → nat_eq w site.number ≡ b → (has (loops_of t) w ≡ true → Named w t) → Named w (in_loop site head body rest t)
    by true e more = record { it = record { site = site; head = head; body = body; rest = rest; trail = t }; around = inl refl; number = grind (arith, nat_tests, e) }
    by false e more =
        let P : Bool → Type 0 = λ b. (b || has (loops_of t) w) ≡ true in
        let n = more (subst P e h) in
        record { it = n.it; around = inr n.around; number = n.number }

-- A kind of jump.
module _ (jumps : ℕ → Block → Bool)
    (in_plain : (w : ℕ) (site : Site) (s : Simple) (rest : Block) → jumps w rest ≡ true → jumps w (plain site s rest) ≡ true)
    (in_choose : (w : ℕ) (site : Site) (chained : Bool) (c : CondTree) (a b rest : Block) → jumps w (choose site chained c a b rest) ≡ (jumps w a || (jumps w b || jumps w rest)))
    (in_body : (w : ℕ) (site : Site) (head : Head) (body rest : Block) → jumps w (loop site head body rest) ≡ (jumps w body || jumps w rest)) where
  three_none : (a b c : Option Loop) → a ≡ None → b ≡ None → c ≡ None → first_loop a (first_loop b c) ≡ None
  three_none a b c h j k = rw (h, j, k) refl

  not_this : (w : ℕ) (it : Loop) → nat_eq w it.site.number ≡ false → this_loop jumps w it ≡ None
  not_this w it h =
      let e : nat_eq it.site.number w ≡ false = grind (arith, nat_tests, h) in
      rw e refl

  not_in : (w : ℕ) (b : Block) (t : Trail) → has (loops_in b) w ≡ false → loop_in jumps w b t ≡ None
  not_in w end t h = refl
  not_in w (plain site s rest) t h = not_in w rest t h
  not_in w (choose site chained c a b rest) t h =
      let p = has_neither w (loops_in a) (loops_in b ++ loops_in rest) h in
      let q = has_neither w (loops_in b) (loops_in rest) p.1 in
      three_none (loop_in jumps w a (within_if b rest t)) (loop_in jumps w b (within_if end rest t)) (loop_in jumps w rest t)
      (not_in w a (within_if b rest t) p.0) (not_in w b (within_if end rest t) q.0) (not_in w rest t q.1)
  not_in w (loop site head body rest) t h =
      let it : Loop = record { site = site; head = head; body = body; rest = rest; trail = t } in
      let p = has_neither w (loops_in body) (site.number ∷ loops_in rest) h in
      let q = neither (nat_eq w site.number) (has (loops_in rest) w) p.1 in
      three_none (loop_in jumps w body (in_loop site head body rest t)) (this_loop jumps w it) (loop_in jumps w rest t)
      (not_in w body (in_loop site head body rest t) p.0) (not_this w it q.0) (not_in w rest t q.1)

  pub is_in : (w : ℕ) (b : Block) (t : Trail) (it : Loop) → loop_in jumps w b t ≡ Some it → has (loops_in b) w ≡ true
  is_in w b t it e = by (has (loops_in b) w) refl
    where
      by : (x : Bool) → has (loops_in b) w ≡ x → has (loops_in b) w ≡ true
      by true h = h
      by false h = absurd (cc (e, not_in w b t h))

  first_is : (a b : Option Loop) (it : Loop) → a ≡ Some it → first_loop a b ≡ Some it
  first_is a b it h = rw h refl

  other_is : (a b : Option Loop) (it : Loop) → a ≡ None → b ≡ Some it → first_loop a b ≡ Some it
  other_is a b it h j = rw h j

  -- A block that stands in a body with what follows it.
  pub record Inside (body b : Block) (t : Trail) : Type 0 where
    pub held : (it : Loop) → Around it t → (w : ℕ) → jumps w b ≡ true → jumps w it.body ≡ true
    pub found : (it : Loop) → Around it t → jumps it.site.number it.body ≡ true → loop_in jumps it.site.number body top ≡ Some it
    pub stands : (w : ℕ) (it : Loop) → loop_in jumps w b t ≡ Some it → loop_in jumps w body top ≡ Some it
    pub apart : apart (loops_in b) ≡ true

  pub whole : (body : Block) → apart (loops_in body) ≡ true → Inside body body top
  whole body h = record { held = λ it a. absurd a; found = λ it a. absurd a; stands = λ w it e. e; apart = h }

  pub inside_rest : (body : Block) (site : Site) (s : Simple) (rest : Block) (t : Trail) → Inside body (plain site s rest) t → Inside body rest t
  inside_rest body site s rest t i = record {
    held = λ it a w h. i.held it a w (in_plain w site s rest h);
    found = i.found;
    stands = i.stands;
    apart = i.apart;
  }

  module _ (body : Block) (site : Site) (chained : Bool) (c : CondTree) (a b rest : Block) (t : Trail) (i : Inside body (choose site chained c a b rest) t) where
    pub inside_then : Inside body a (within_if b rest t)
    inside_then = record {
      held = λ it r w h. i.held it r w (in_choose w site chained c a b rest ∙ left_or (jumps w a) (jumps w b || jumps w rest) h);
      found = i.found;
      stands = λ w it e. i.stands w it (first_is (loop_in jumps w a (within_if b rest t)) _ it e);
      apart = apart_front (loops_in a) (loops_in b ++ loops_in rest) i.apart;
    }

    pub inside_else : Inside body b (within_if end rest t)
    inside_else = record {
      held = λ it r w h. i.held it r w (in_choose w site chained c a b rest ∙ right_or (jumps w a) (jumps w b || jumps w rest) (left_or (jumps w b) (jumps w rest) h));
      found = i.found;
      stands = λ w it e.
          let own = is_in w b (within_if end rest t) it e in
          let there : has (loops_in b ++ loops_in rest) w ≡ true = list_any-append (nat_eq w) (loops_in b) (loops_in rest) ∙ left_or (has (loops_in b) w) (has (loops_in rest) w) own in
          i.stands w it (other_is (loop_in jumps w a (within_if b rest t)) _ it (not_in w a (within_if b rest t) (apart_both w (loops_in a) (loops_in b ++ loops_in rest) i.apart there))
          (first_is (loop_in jumps w b (within_if end rest t)) (loop_in jumps w rest t) it e));
      apart = apart_front (loops_in b) (loops_in rest) (apart_back (loops_in a) (loops_in b ++ loops_in rest) i.apart);
    }

    pub inside_behind : Inside body rest t
    inside_behind = record {
      held = λ it r w h. i.held it r w (in_choose w site chained c a b rest ∙ right_or (jumps w a) (jumps w b || jumps w rest) (right_or (jumps w b) (jumps w rest) h));
      found = i.found;
      stands = λ w it e.
          let own = is_in w rest t it e in
          let back = apart_back (loops_in a) (loops_in b ++ loops_in rest) i.apart in
          let there : has (loops_in b ++ loops_in rest) w ≡ true = list_any-append (nat_eq w) (loops_in b) (loops_in rest) ∙ right_or (has (loops_in b) w) (has (loops_in rest) w) own in
          i.stands w it (other_is (loop_in jumps w a (within_if b rest t)) _ it (not_in w a (within_if b rest t) (apart_both w (loops_in a) (loops_in b ++ loops_in rest) i.apart there))
          (other_is (loop_in jumps w b (within_if end rest t)) (loop_in jumps w rest t) it (not_in w b (within_if end rest t) (apart_both w (loops_in b) (loops_in rest) back own)) e));
      apart = apart_back (loops_in b) (loops_in rest) (apart_back (loops_in a) (loops_in b ++ loops_in rest) i.apart);
    }

  module _ (top_body : Block) (site : Site) (head : Head) (body rest : Block) (t : Trail) (i : Inside top_body (loop site head body rest) t) where
    abbrev it : Loop
    it = record { site = site; head = head; body = body; rest = rest; trail = t }

    this_found : (b : Bool) → jumps site.number body ≡ b → b ≡ true → this_loop jumps site.number it ≡ Some it
    this_found true e h = rw (same_number site.number, e) refl
    this_found false e h = absurd (cc h)

    loop_found : jumps site.number body ≡ true → loop_in jumps site.number top_body top ≡ Some it
    loop_found h =
        let there : has (site.number ∷ loops_in rest) site.number ≡ true = left_or (nat_eq site.number site.number) (has (loops_in rest) site.number) (same_number site.number) in
        i.stands site.number it (other_is (loop_in jumps site.number body (in_loop site head body rest t)) _ it
        (not_in site.number body (in_loop site head body rest t) (apart_both site.number (loops_in body) (site.number ∷ loops_in rest) i.apart there))
        (first_is (this_loop jumps site.number it) (loop_in jumps site.number rest t) it (this_found (jumps site.number body) refl h)))

    pub inside_loop : Inside top_body body (in_loop site head body rest t)
    inside_loop = record {
      held = holds;
      found = finds;
      stands = λ w l e. i.stands w l (first_is (loop_in jumps w body (in_loop site head body rest t)) _ l e);
      apart = apart_front (loops_in body) (site.number ∷ loops_in rest) i.apart;
    }
      where
        holds : (l : Loop) → Around l (in_loop site head body rest t) → (w : ℕ) → jumps w body ≡ true → jumps w l.body ≡ true
        holds l (inl e) w h = let P : Loop → Type 0 = λ l. jumps w l.body ≡ true in subst P (sym e) h
        holds l (inr r) w h = i.held l r w (in_body w site head body rest ∙ left_or (jumps w body) (jumps w rest) h)

        finds : (l : Loop) → Around l (in_loop site head body rest t) → jumps l.site.number l.body ≡ true → loop_in jumps l.site.number top_body top ≡ Some l
        finds l (inl e) = let P : Loop → Type 0 = λ l. jumps l.site.number l.body ≡ true → loop_in jumps l.site.number top_body top ≡ Some l in subst P (sym e) loop_found
        finds l (inr r) = i.found l r

    pub inside_after : Inside top_body rest t
    inside_after = record {
      held = λ l r w h. i.held l r w (in_body w site head body rest ∙ right_or (jumps w body) (jumps w rest) h);
      found = i.found;
      stands = λ w l e.
          let own = is_in w rest t l e in
          let back = apart_back (loops_in body) (site.number ∷ loops_in rest) i.apart in
          let there : has (site.number ∷ loops_in rest) w ≡ true = right_or (nat_eq w site.number) (has (loops_in rest) w) own in
          i.stands w l (other_is (loop_in jumps w body (in_loop site head body rest t)) _ l
          (not_in w body (in_loop site head body rest t) (apart_both w (loops_in body) (site.number ∷ loops_in rest) i.apart there))
          (other_is (this_loop jumps w it) (loop_in jumps w rest t) l (not_this w it (other_number w back own)) e));
      apart = apart_back (site.number ∷ []) (loops_in rest) (apart_back (loops_in body) (site.number ∷ loops_in rest) i.apart);
    }
      where
        other_number : (w : ℕ) → apart (site.number ∷ loops_in rest) ≡ true → has (loops_in rest) w ≡ true → nat_eq w site.number ≡ false
        other_number w h k = (neither (nat_eq w site.number) false (apart_both w (site.number ∷ []) (loops_in rest) h k)).0

  -- What a jump in it names is found from the front of the body.
  pub jump_finds : (body b : Block) (t : Trail) (w : ℕ) → Inside body b t → jumps w b ≡ true → (n : Named w t) → loop_in jumps w body top ≡ Some n.it
  jump_finds body b t w i h n =
      let P : ℕ → Type 0 = λ v. jumps v n.it.body ≡ true in
      let Q : ℕ → Type 0 = λ v. loop_in jumps v body top ≡ Some n.it in
      subst Q n.number (i.found n.it n.around (subst P (sym n.number) (i.held n.it n.around w h)))

  pub jump_held : (body b : Block) (t : Trail) (w : ℕ) → Inside body b t → jumps w b ≡ true → (n : Named w t) → jumps n.it.site.number n.it.body ≡ true
  jump_held body b t w i h n = let P : ℕ → Type 0 = λ v. jumps v n.it.body ≡ true in subst P (sym n.number) (i.held n.it n.around w h)

-- The two kinds.
pub break_plain : (w : ℕ) (site : Site) (s : Simple) (rest : Block) → breaks w rest ≡ true → breaks w (plain site s rest) ≡ true
break_plain w site (assign t op v) rest h = h
break_plain w site (await at t a call) rest h = h
break_plain w site (perform at t call) rest h = h
break_plain w site (invoke at t keep mark called given_args) rest h = h
break_plain w site (break_from v) rest h = right_or (nat_eq v w) (breaks w rest) h
break_plain w site (continue_in v) rest h = h
break_plain w site (give_back v) rest h = h
break_plain w site (yield n) rest h = h
break_plain w site (claim goal ax) rest h = h

pub continue_plain : (w : ℕ) (site : Site) (s : Simple) (rest : Block) → continues w rest ≡ true → continues w (plain site s rest) ≡ true
continue_plain w site (assign t op v) rest h = h
continue_plain w site (await at t a call) rest h = h
continue_plain w site (perform at t call) rest h = h
continue_plain w site (invoke at t keep mark called given_args) rest h = h
continue_plain w site (break_from v) rest h = h
continue_plain w site (continue_in v) rest h = right_or (nat_eq v w) (continues w rest) h
continue_plain w site (give_back v) rest h = h
continue_plain w site (yield n) rest h = h
continue_plain w site (claim goal ax) rest h = h
