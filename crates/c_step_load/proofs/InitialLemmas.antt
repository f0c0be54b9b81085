-- The initial values of locals, one after the other.
use Rattle.std.proofs.Common.{◌≡◌, ℕ, ◌+◌, List, [], ◌∷◌, ◌++◌, length, sym, ap, ◌∙◌, append_assoc}
use Rattle.std.proofs.lemmas.List.{append-nil, length-append}
use Rattle.c_text.specs.CTree.{LocalTree}
use Rattle.c_meaning.specs.CTypes.{CScope}
use Rattle.c_step_exprs.specs.declared.instrs.Instr.{Instr}
use Rattle.c_step_text.specs.Flat.{FlatText, flat_text}
use Rattle.c_step_load_stmts.specs.Bodies.{with_exprs}
use Rattle.c_step_run.specs.declared.code.Initial.{Initial}
use Rattle.c_step_program.specs.Programs.{initial_exprs_of, initial_exprs, initial_span, initials_of}

module _ (scope : CScope) (t new : FlatText) (l : LocalTree) (ls all : List LocalTree) (here : all ≡ l ∷ ls) (put : new ≡ with_exprs t (initial_exprs_of scope l.initial)) where
  pub text_more : (total : FlatText) → with_exprs t (initial_exprs scope all) ≡ total → with_exprs new (initial_exprs scope ls) ≡ total
  text_more total so_far =
      ap (λ (x : FlatText). with_exprs x (initial_exprs scope ls)) put
      ∙ (ap (λ (es : List Instr). flat_text t.statements es t.arms) (append_assoc t.exprs (initial_exprs_of scope l.initial) (initial_exprs scope ls))
      ∙ (ap (λ (xs : List LocalTree). with_exprs t (initial_exprs scope xs)) (sym here) ∙ so_far))

  pub initials_more : (field next : ℕ) (old now total : List Initial) → next ≡ field + 1 → now ≡ old ++ record { field = field; value = initial_span scope (length t.exprs) l.initial } ∷ []
      → old ++ initials_of scope field (length t.exprs) all ≡ total → now ++ initials_of scope next (length new.exprs) ls ≡ total
  initials_more field next old now total step more so_far =
      let long : length new.exprs ≡ length t.exprs + length (initial_exprs_of scope l.initial) = ap (λ (x : FlatText). length x.exprs) put ∙ length-append t.exprs (initial_exprs_of scope l.initial) in
      ap (λ (n : ℕ). now ++ initials_of scope n (length new.exprs) ls) step
      ∙ (ap (λ (n : ℕ). now ++ initials_of scope (field + 1) n ls) long
      ∙ (ap (λ (is : List Initial). is ++ initials_of scope (field + 1) (length t.exprs + length (initial_exprs_of scope l.initial)) ls) more
      ∙ (append_assoc old (record { field = field; value = initial_span scope (length t.exprs) l.initial } ∷ []) (initials_of scope (field + 1) (length t.exprs + length (initial_exprs_of scope l.initial)) ls)
      ∙ (ap (λ (xs : List LocalTree). old ++ initials_of scope field (length t.exprs) xs) (sym here) ∙ so_far))))

pub text_done : (scope : CScope) (t total : FlatText) (ls : List LocalTree) → ls ≡ [] → with_exprs t (initial_exprs scope ls) ≡ total → t ≡ total
text_done scope t total ls none so_far =
    sym (ap (λ (es : List Instr). flat_text t.statements es t.arms) (append-nil t.exprs))
    ∙ (ap (λ (xs : List LocalTree). with_exprs t (initial_exprs scope xs)) (sym none) ∙ so_far)

pub initials_done : (scope : CScope) (field place : ℕ) (now total : List Initial) (ls : List LocalTree) → ls ≡ [] → now ++ initials_of scope field place ls ≡ total → now ≡ total
initials_done scope field place now total ls none so_far =
    sym (append-nil now) ∙ (ap (λ (xs : List LocalTree). now ++ initials_of scope field place xs) (sym none) ∙ so_far)
