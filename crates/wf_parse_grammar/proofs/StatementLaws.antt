-- The machine's count of statements is that of the tokens: where it begins a statement, the token stands after a break,
-- and what is left of its room is what the tokens leave of 4,096.
use Rattle.std.proofs.Common.{◌≡◌, ◌∙◌, ◌+◌, ◌≤◌, ap, sym, subst, ℕ, Bool, true, false, ◌&&◌, ◌||◌, ◌⊎◌, inl, inr, not, List, [], ◌∷◌, ◌++◌, refl, nat_eq, arith}
use Rattle.wf_parse_grammar.specs.declared.tokens.Kind.{Kind}
use Rattle.wf_parse_grammar.specs.declared.symbols.Sym.{Sym}
use Rattle.wf_parse_grammar.specs.declared.symbols.Sym.TheVariants as syms
use Rattle.wf_parse_grammar.specs.Statements.{is_break, begins_statement, counted}
use Rattle.wf_parse_grammar.proofs.MoveShapes.{is_fresh, is_body, all_calm, bodied, is_head, implies, is_func, is_semicolon, is_quiet, is_nothing, is_declaration, is_method, is_typed, is_block, is_vars, calmly, take_fits}
use Rattle.wf_parse_grammar.proofs.StatementShapes.{phase_of, phase, fresh_top, is_start, starts, Needs, Sound, Counts, both, either, not-true, implied, apart, body-two, phase-two, phase-one, body-needs, needs-body, fresh-body, fresh-start, break-begins, break-func, func-break, semicolon-break, two_or, count-func, count-same, calm-append, calm-top, calm-sound}

pub not-one : (n : ℕ) → nat_eq n 1 ≡ false → n ≡ 1 → ⊥
not-one n h e = let f : nat_eq 1 1 ≡ false = ap (λ m. nat_eq m 1) (sym e) ∙ h in cc f

-- Calm symbols in place of another.
pub phase-back : (s : Sym) (xs k : List Sym) (b : Bool) → bodied xs ≡ b → all_calm xs ≡ true → (b ≡ true → is_body s ≡ true) → is_head s ≡ false → phase (xs ++ k) ≡ 2 → phase (s ∷ k) ≡ 2
phase-back s xs k true e c f h p = body-two s (phase k) (f refl)
phase-back s xs k false e c f h p =
    let q : phase k ≡ 2 = sym (calm-append xs k c ∙ ap (λ b. two_or b (phase k)) e) ∙ p in
    ap (phase_of s) q ∙ phase-two s h

pub head-back : (s : Sym) (xs k : List Sym) (b : Bool) → bodied xs ≡ b → all_calm xs ≡ true → Needs s k → phase (xs ++ k) ≡ 1 → phase (s ∷ k) ≡ 1
head-back s xs k true e c h p = let q : 2 ≡ 1 = sym (calm-append xs k c ∙ ap (λ b. two_or b (phase k)) e) ∙ p in absurd (cc q)
head-back s xs k false e c h p =
    let q : phase k ≡ 1 = sym (calm-append xs k c ∙ ap (λ b. two_or b (phase k)) e) ∙ p in
    on-body (is_body s) refl q
  where
    on-body : (b : Bool) → is_body s ≡ b → phase k ≡ 1 → phase (s ∷ k) ≡ 1
    on-body true g q = absurd (not-one (phase k) (needs-body s k g h) q)
    on-body false g q = ap (phase_of s) q ∙ phase-one s g

calm-counts : (s : Sym) (t : Kind) (xs k : List Sym) (b : Bool) (n room : ℕ) → calmly s t xs ≡ true → is_head s ≡ false → (is_start s ≡ true → is_fresh s ≡ true)
    → Counts (s ∷ k) b n room → Counts (xs ++ k) (is_break t) (counted b n t) room
calm-counts s t xs k b n room h hd st i =
    let c1 = both (not (is_break t)) (not (is_func t) && (all_calm xs && (implies (bodied xs) (is_body s) && implies (is_fresh s) (not (begins_statement t))))) h in
    let c2 = both (not (is_func t)) (all_calm xs && (implies (bodied xs) (is_body s) && implies (is_fresh s) (not (begins_statement t)))) c1.1 in
    let c3 = both (all_calm xs) (implies (bodied xs) (is_body s) && implies (is_fresh s) (not (begins_statement t))) c2.1 in
    let c4 = both (implies (bodied xs) (is_body s)) (implies (is_fresh s) (not (begins_statement t))) c3.1 in
    let unbroken : is_break t ≡ false = not-true (is_break t) c1.0 in
    let same : counted b n t ≡ n = count-same b n t (not-true (is_func t) c2.0) (λ e. not-true (begins_statement t) (implied (is_fresh s) (not (begins_statement t)) c4.1 (st (i.first e)))) in
    record {
      sound = calm-sound xs k c3.0 (λ e. needs-body s k (implied (bodied xs) (is_body s) c4.0 e) i.sound.0) i.sound.1 i.sound.2;
      first = λ e. absurd (apart (is_break t) e unbroken);
      later = λ e. calm-top xs k c3.0 i.sound.1;
      inside = λ e. ap (λ m. room + m) same ∙ i.inside (phase-back s xs k (bodied xs) refl c3.0 (λ f. implied (bodied xs) (is_body s) c4.0 f) hd e);
      head = λ e. same ∙ i.head (head-back s xs k (bodied xs) refl c3.0 i.sound.0 e);
      most = subst (λ m. m ≤ 4096) (sym same) i.most;
    }

-- The statements of a block, after a break.
is_block-one : (xs : List Sym) → is_block xs ≡ true → (x : Sym) × (is_fresh x ≡ true) × (xs ≡ x ∷ [])
is_block-one [] h = absurd (cc h)
is_block-one (x ∷ []) h = (x, h, refl)
is_block-one (x ∷ y ∷ xs) h = absurd (cc h)

block-counts : (s x : Sym) (t : Kind) (k : List Sym) (b : Bool) (n room : ℕ) → is_break t ≡ true → is_body s ≡ true → is_fresh x ≡ true
    → Counts (s ∷ k) b n room → Counts (x ∷ k) (is_break t) (counted b n t) room
block-counts s x t k b n room bt bs fx i =
    let same : counted b n t ≡ n = count-same b n t (break-func t bt) (λ e. break-begins t bt) in
    record {
      sound = (body-needs x k (fresh-body x fx) (needs-body s k bs i.sound.0), i.sound.1, i.sound.2);
      first = λ e. fresh-start x fx;
      later = λ e. absurd (apart (is_break t) bt e);
      inside = λ e. ap (λ m. room + m) same ∙ i.inside (body-two s (phase k) bs);
      head = λ e. let q : 2 ≡ 1 = sym (body-two x (phase k) (fresh-body x fx)) ∙ e in absurd (cc q);
      most = subst (λ m. m ≤ 4096) (sym same) i.most;
    }

-- The rare symbols.
quiet-same : (t : Kind) (b : Bool) (n : ℕ) → is_quiet t ≡ true → (counted b n t ≡ n) × (is_break t ≡ false)
quiet-same t b n h =
    let c1 = both (not (is_break t)) (not (is_func t) && not (begins_statement t)) h in
    let c2 = both (not (is_func t)) (not (begins_statement t)) c1.1 in
    (count-same b n t (not-true (is_func t) c2.0) (λ e. not-true (begins_statement t) c2.1), not-true (is_break t) c1.0)

is_declaration-list : (xs : List Sym) → is_declaration xs ≡ true → xs ≡ syms.Decl ∷ syms.ASemicolon ∷ syms.File ∷ []
is_declaration-list (syms.Decl ∷ syms.ASemicolon ∷ syms.File ∷ []) h = refl
is_declaration-list _ h = absurd (cc h)

is_method-list : (xs : List Sym) → is_method xs ≡ true → xs ≡ syms.AName ∷ syms.ADot ∷ syms.AName ∷ syms.FieldsMark ∷ syms.MethodTail ∷ []
is_method-list (syms.AName ∷ syms.ADot ∷ syms.AName ∷ syms.FieldsMark ∷ syms.MethodTail ∷ []) h = refl
is_method-list _ h = absurd (cc h)

pub is_vars-list : (xs : List Sym) → is_vars xs ≡ true → xs ≡ syms.Vars ∷ []
is_vars-list (syms.Vars ∷ []) h = refl
is_vars-list _ h = absurd (cc h)

is_nothing-list : (xs : List Sym) → is_nothing xs ≡ true → xs ≡ []
is_nothing-list [] h = refl
is_nothing-list (x ∷ xs) h = absurd (cc h)

-- what is wanted outside of methods and in a method's head
pub outside-counts : (j : List Sym) (b : Bool) (n room : ℕ) → Sound j → phase j ≡ 0 → (b ≡ true → starts j ≡ true) → (b ≡ false → fresh_top j ≡ false) → n ≤ 4096 → Counts j b n room
outside-counts j b n room s p f l m = record {
  sound = s;
  first = f;
  later = l;
  inside = λ e. let q : 0 ≡ 2 = sym p ∙ e in absurd (cc q);
  head = λ e. let q : 0 ≡ 1 = sym p ∙ e in absurd (cc q);
  most = m;
}

head-counts : (j : List Sym) (b : Bool) (n room : ℕ) → Sound j → phase j ≡ 1 → b ≡ false → fresh_top j ≡ false → n ≡ 0 → Counts j b n room
head-counts j b n room s p nb l z = record {
  sound = s;
  first = λ e. absurd (apart b e nb);
  later = λ e. l;
  inside = λ e. let q : 1 ≡ 2 = sym p ∙ e in absurd (cc q);
  head = λ e. z;
  most = subst (λ m. m ≤ 4096) (sym z) (omega arith);
}

file-counts : (t : Kind) (xs k : List Sym) (b : Bool) (n room : ℕ) → (is_quiet t && is_declaration xs) ≡ true → Counts (syms.File ∷ k) b n room → Counts (xs ++ k) (is_break t) (counted b n t) room
file-counts t xs k b n room h i =
    let c = both (is_quiet t) (is_declaration xs) h in
    let q = quiet-same t b n c.0 in
    let e : xs ++ k ≡ syms.Decl ∷ syms.ASemicolon ∷ syms.File ∷ [] = ap (λ ys. ys ++ k) (is_declaration-list xs c.1) ∙ ap (λ j. syms.Decl ∷ syms.ASemicolon ∷ syms.File ∷ j) i.sound.0 in
    subst (λ j. Counts j (is_break t) (counted b n t) room) (sym e)
    (outside-counts (syms.Decl ∷ syms.ASemicolon ∷ syms.File ∷ []) (is_break t) (counted b n t) room (refl, refl, (refl, refl, (refl, refl, tt))) refl
    (λ f. absurd (apart (is_break t) f q.1)) (λ f. refl) (subst (λ m. m ≤ 4096) (sym q.0) i.most))

method-counts : (t : Kind) (xs k : List Sym) (b : Bool) (n room : ℕ) → (is_func t && is_method xs) ≡ true → Counts (syms.Decl ∷ k) b n room → Counts (xs ++ k) (is_break t) (counted b n t) room
method-counts t xs k b n room h i =
    let c = both (is_func t) (is_method xs) h in
    let ys = syms.AName ∷ syms.ADot ∷ syms.AName ∷ syms.FieldsMark ∷ syms.MethodTail ∷ [] in
    let e : xs ++ k ≡ ys ++ syms.ASemicolon ∷ syms.File ∷ [] = ap (λ zs. zs ++ k) (is_method-list xs c.1) ∙ ap (λ j. ys ++ j) i.sound.0 in
    subst (λ j. Counts j (is_break t) (counted b n t) room) (sym e)
    (head-counts (ys ++ syms.ASemicolon ∷ syms.File ∷ []) (is_break t) (counted b n t) room (refl, refl, (refl, refl, (refl, refl, (refl, refl, (refl, refl, (refl, refl, (refl, refl, tt))))))) refl
    (func-break t c.0) refl (count-func b n t c.0))

semicolon-counts : (t : Kind) (xs k : List Sym) (b : Bool) (n room : ℕ) → (is_semicolon t && is_nothing xs) ≡ true → Counts (syms.ASemicolon ∷ k) b n room → Counts (xs ++ k) (is_break t) (counted b n t) room
semicolon-counts t xs k b n room h i =
    let c = both (is_semicolon t) (is_nothing xs) h in
    let bt = semicolon-break t c.0 in
    let same : counted b n t ≡ n = count-same b n t (break-func t bt) (λ e. break-begins t bt) in
    let e : xs ++ k ≡ syms.File ∷ [] = ap (λ ys. ys ++ k) (is_nothing-list xs c.1) ∙ i.sound.0 in
    subst (λ j. Counts j (is_break t) (counted b n t) room) (sym e)
    (outside-counts (syms.File ∷ []) (is_break t) (counted b n t) room (refl, refl, tt) refl (λ f. refl) (λ f. refl) (subst (λ m. m ≤ 4096) (sym same) i.most))

-- after the first token of a method's result
typed-sound : (xs : List Sym) → is_typed xs ≡ true → Sound (xs ++ syms.ASemicolon ∷ syms.File ∷ []) × (phase (xs ++ syms.ASemicolon ∷ syms.File ∷ []) ≡ 1) × (fresh_top (xs ++ syms.ASemicolon ∷ syms.File ∷ []) ≡ false)
typed-sound (syms.Body ∷ []) h = ((refl, refl, (refl, refl, (refl, refl, tt))), refl, refl)
typed-sound (syms.WholeType ∷ syms.Body ∷ []) h = ((refl, refl, (refl, refl, (refl, refl, (refl, refl, tt)))), refl, refl)
typed-sound (syms.ADot ∷ syms.BaseName ∷ syms.Body ∷ []) h = ((refl, refl, (refl, refl, (refl, refl, (refl, refl, (refl, refl, tt))))), refl, refl)
typed-sound (syms.ArrayLength ∷ syms.WholeType ∷ syms.Body ∷ []) h = ((refl, refl, (refl, refl, (refl, refl, (refl, refl, (refl, refl, tt))))), refl, refl)
typed-sound _ h = absurd (cc h)

typed-counts : (t : Kind) (xs k : List Sym) (b : Bool) (n room : ℕ) → (not (is_break t) && (not (is_func t) && is_typed xs)) ≡ true → Counts (syms.MethodTail ∷ k) b n room → Counts (xs ++ k) (is_break t) (counted b n t) room
typed-counts t xs k b n room h i =
    let c1 = both (not (is_break t)) (not (is_func t) && is_typed xs) h in
    let c2 = both (not (is_func t)) (is_typed xs) c1.1 in
    let d = typed-sound xs c2.1 in
    let same : counted b n t ≡ n = count-same b n t (not-true (is_func t) c2.0) (λ e. absurd (no-start e)) in
    let e : xs ++ k ≡ xs ++ syms.ASemicolon ∷ syms.File ∷ [] = ap (λ j. xs ++ j) i.sound.0 in
    subst (λ j. Counts j (is_break t) (counted b n t) room) (sym e)
    (head-counts (xs ++ syms.ASemicolon ∷ syms.File ∷ []) (is_break t) (counted b n t) room d.0 d.1 (not-true (is_break t) c1.0) d.2 (same ∙ i.head refl))
  where
    no-start : b ≡ true → ⊥
    no-start e = let f : false ≡ true = i.first e in cc f

-- A token that is read, and no more.
decl-counts : (t : Kind) (xs k : List Sym) (b : Bool) (n room : ℕ) → take_fits syms.Decl t xs ≡ true → Counts (syms.Decl ∷ k) b n room → Counts (xs ++ k) (is_break t) (counted b n t) room
decl-counts t xs k b n room h i = on-either (either (is_func t && is_method xs) (calmly syms.Decl t xs) h)
  where
    on-either : ((is_func t && is_method xs) ≡ true) ⊎ (calmly syms.Decl t xs ≡ true) → Counts (xs ++ k) (is_break t) (counted b n t) room
    on-either (inl g) = method-counts t xs k b n room g i
    on-either (inr g) = calm-counts syms.Decl t xs k b n room g refl (λ e. absurd (cc e)) i

other-counts : (s : Sym) (t : Kind) (xs k : List Sym) (b : Bool) (n room : ℕ) → is_head s ≡ false → (is_start s ≡ true → is_fresh s ≡ true)
    → ((is_break t && (is_body s && is_block xs)) || calmly s t xs) ≡ true → Counts (s ∷ k) b n room → Counts (xs ++ k) (is_break t) (counted b n t) room
other-counts s t xs k b n room hd st h i = on-either (either (is_break t && (is_body s && is_block xs)) (calmly s t xs) h)
  where
    on-either : ((is_break t && (is_body s && is_block xs)) ≡ true) ⊎ (calmly s t xs ≡ true) → Counts (xs ++ k) (is_break t) (counted b n t) room
    on-either (inl g) =
        let c1 = both (is_break t) (is_body s && is_block xs) g in
        let c2 = both (is_body s) (is_block xs) c1.1 in
        let x = is_block-one xs c2.1 in
        subst (λ ys. Counts (ys ++ k) (is_break t) (counted b n t) room) (sym x.2) (block-counts s x.0 t k b n room c1.0 c2.0 x.1 i)
    on-either (inr g) = calm-counts s t xs k b n room g hd st i

pub take-counts : (s : Sym) (t : Kind) (xs k : List Sym) (b : Bool) (n room : ℕ) → take_fits s t xs ≡ true → Counts (s ∷ k) b n room → Counts (xs ++ k) (is_break t) (counted b n t) room
take-counts syms.File t xs k b n room h i = file-counts t xs k b n room h i
take-counts syms.Decl t xs k b n room h i = decl-counts t xs k b n room h i
take-counts syms.ASemicolon t xs k b n room h i = semicolon-counts t xs k b n room h i
take-counts syms.MethodTail t xs k b n room h i = typed-counts t xs k b n room h i
take-counts syms.Body t xs k b n room h i = absurd (cc h)
take-counts syms.Items t xs k b n room h i = other-counts syms.Items t xs k b n room refl (λ e. refl) h i
take-counts syms.Vars t xs k b n room h i = other-counts syms.Vars t xs k b n room refl (λ e. refl) h i
take-counts s t xs k b n room h i = other-counts s t xs k b n room refl (λ e. e) h i
