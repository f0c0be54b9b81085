-- The cases of a `switch` by its statements, and whether they fit.
use Rattle.std.proofs.Common.{◌≡◌, ◌+◌, ℕ, Bool, true, false, not, ◌&&◌, ◌||◌, List, [], ◌∷◌, ◌++◌, refl, sym, ◌∙◌, ap, arith, append_assoc, nat_eq, nat_le}
use Rattle.std.specs.List.{list_any, list_all}
use Rattle.std.proofs.lemmas.Bool.Decides.{nat_tests}
use Rattle.std.proofs.lemmas.List.Folds.{list_any-append}
use Rattle.c_text.specs.declared.kinds.CNumber.{CNumber}
use Rattle.c_text.specs.declared.kinds.CNumber.TheVariants as literal
use Rattle.c_text.specs.CTree.{Code, finish, nested, empty, assign, call, jump, branch, repeat, select, leave, case_label, default_label, name_label}
use Rattle.c_meaning.specs.UnitForm.{Cases, no_cases, both_cases, cases_of, is_other_case, plain_distinct, formed_cases}
use Rattle.c_form_stmts.specs.declared.cases.Mark.{Mark}
use Rattle.c_form_stmts.specs.declared.cases.Mark.TheVariants as mark
use Rattle.c_form_stmts.specs.Lines.{LineTree, lines_of}
use Rattle.c_form_stmts.specs.Cases.{mark_of, cases_fit}
use Rattle.c_form_stmts.proofs.NameLemmas.{all_and}

abbrev pub cases_by : Mark → Cases → Cases
cases_by (mark.Case n) rest = both_cases (record { numbers = n ∷ []; defaults = 0 }) rest
cases_by mark.Default rest = both_cases (record { numbers = []; defaults = 1 }) rest
cases_by mark.None rest = rest

abbrev pub cases_in : List LineTree → Cases
cases_in [] = no_cases
cases_in (l ∷ ls) = cases_by (mark_of l.code) (cases_in ls)

abbrev pub cases_made : List CNumber → ℕ → Cases
cases_made ns d = record { numbers = ns; defaults = d }

both : (a b : List CNumber) (m n : ℕ) → a ≡ b → m ≡ n → cases_made a m ≡ cases_made b n
both a b m n p q = cc (p, q)

both_assoc : (a b c : Cases) → both_cases (both_cases a b) c ≡ both_cases a (both_cases b c)
both_assoc a b c = both ((a.numbers ++ b.numbers) ++ c.numbers) (a.numbers ++ (b.numbers ++ c.numbers)) ((a.defaults + b.defaults) + c.defaults) (a.defaults + (b.defaults + c.defaults)) (append_assoc a.numbers b.numbers c.numbers) (omega arith)

none_first : (a : Cases) → both_cases no_cases a ≡ a
none_first a = both a.numbers a.numbers (0 + a.defaults) a.defaults refl (omega arith)

by_append : (m : Mark) (a b : Cases) → cases_by m (both_cases a b) ≡ both_cases (cases_by m a) b
by_append (mark.Case n) a b = sym (both_assoc (record { numbers = n ∷ []; defaults = 0 }) a b)
by_append mark.Default a b = sym (both_assoc (record { numbers = []; defaults = 1 }) a b)
by_append mark.None a b = refl

in_append : (xs ys : List LineTree) → cases_in (xs ++ ys) ≡ both_cases (cases_in xs) (cases_in ys)
in_append [] ys = sym (none_first (cases_in ys))
in_append (x ∷ xs) ys = ap (cases_by (mark_of x.code)) (in_append xs ys) ∙ by_append (mark_of x.code) (cases_in xs) (cases_in ys)

pub cases_listed : (s : Bool) (code : Code) → cases_of code ≡ cases_in (lines_of false s code)
cases_listed s finish = refl
cases_listed s (nested body rest) = ap (λ a. both_cases a (cases_of rest)) (cases_listed s body) ∙ (ap (both_cases (cases_in (lines_of false s body))) (cases_listed s rest) ∙ sym (in_append (lines_of false s body) (lines_of false s rest)))
cases_listed s (empty rest) = cases_listed s rest
cases_listed s (assign target value rest) = cases_listed s rest
cases_listed s (call target function given rest) = cases_listed s rest
cases_listed s (jump label rest) = cases_listed s rest
cases_listed s (branch test body otherwise other rest) = ap (λ a. both_cases a (both_cases (cases_of other) (cases_of rest))) (cases_listed s body) ∙ (ap (both_cases (cases_in (lines_of false s body))) (ap (λ a. both_cases a (cases_of rest)) (cases_listed s other) ∙ (ap (both_cases (cases_in (lines_of false s other))) (cases_listed s rest) ∙ sym (in_append (lines_of false s other) (lines_of false s rest)))) ∙ sym (in_append (lines_of false s body) (lines_of false s other ++ lines_of false s rest)))
cases_listed s (repeat test body rest) = ap (λ a. both_cases a (cases_of rest)) (cases_listed s body) ∙ (ap (both_cases (cases_in (lines_of false s body))) (cases_listed s rest) ∙ sym (in_append (lines_of false s body) (lines_of false s rest)))
cases_listed s (select on body rest) = cases_listed s rest
cases_listed s (leave value rest) = cases_listed s rest
cases_listed s (case_label n rest) = ap (both_cases (record { numbers = n ∷ []; defaults = 0 })) (cases_listed s rest)
cases_listed s (default_label rest) = ap (both_cases (record { numbers = []; defaults = 1 })) (cases_listed s rest)
cases_listed s (name_label name rest) = cases_listed s rest

-- A plain case that wasn't seen.
abbrev pub unseen : List ℕ → CNumber → Bool
unseen seen (literal.Int n) = not (list_any (nat_eq n) seen)
unseen seen n = false

not_or : (a b : Bool) → not (a || b) ≡ (not b && not a)
not_or true true = refl
not_or true false = refl
not_or false true = refl
not_or false false = refl

or_false : (a : Bool) → (a || false) ≡ a
or_false true = refl
or_false false = refl

nat_eq-swap : (m n : ℕ) → nat_eq m n ≡ nat_eq n m
nat_eq-swap m n = grind (arith, nat_tests)

unseen_end : (seen : List ℕ) (n : ℕ) (m : CNumber) → unseen (seen ++ n ∷ []) m ≡ (is_other_case (literal.Int n) m && unseen seen m)
unseen_end seen n (literal.Int m) = ap not (list_any-append (nat_eq m) seen (n ∷ [])) ∙ (ap (λ b. not (list_any (nat_eq m) seen || b)) (or_false (nat_eq m n)) ∙ (not_or (list_any (nat_eq m) seen) (nat_eq m n) ∙ ap (λ b. not b && not (list_any (nat_eq m) seen)) (nat_eq-swap m n)))
unseen_end seen n (literal.Unsigned m) = refl
unseen_end seen n (literal.Long m) = refl

-- With one `default` more where there was one.
abbrev pub defaults_with : Bool → ℕ → ℕ
defaults_with true n = n + 1
defaults_with false n = n

abbrev pub fits : List ℕ → Bool → Cases → Bool
fits seen d cases = (plain_distinct cases.numbers && list_all (unseen seen) cases.numbers) && nat_le (defaults_with d cases.defaults) 1

and_false : (a : Bool) → (a && false) ≡ false
and_false true = refl
and_false false = refl

fit_case : (u o p s e : Bool) → u ≡ true → (u && ((p && (o && s)) && e)) ≡ (((o && p) && (u && s)) && e)
fit_case true true true s e is = refl
fit_case true true false s e is = refl
fit_case true false true s e is = refl
fit_case true false false s e is = refl
fit_case false o p s e is = absurd (cc (is))

fit_seen : (o p s e : Bool) → false ≡ (((o && p) && (false && s)) && e)
fit_seen true true s e = refl
fit_seen true false s e = refl
fit_seen false p s e = refl

two_defaults : (n : ℕ) → nat_le (1 + n + 1) 1 ≡ false
two_defaults n = grind (arith, nat_tests)

plus_zero : (n : ℕ) → 0 + n ≡ n
plus_zero n = omega arith

one_more : (d : Bool) (n : ℕ) → defaults_with d (0 + n) ≡ defaults_with d n
one_more d n = ap (defaults_with d) (plus_zero n)

one_first : (n : ℕ) → n + 1 ≡ 1 + n
one_first n = omega arith

pub fit_by : (seen : List ℕ) (d : Bool) (ls : List LineTree) → cases_fit seen d ls ≡ fits seen d (cases_in ls)
fit_by seen true [] = refl
fit_by seen false [] = refl
fit_by seen d (l ∷ ls) = by (mark_of l.code) refl (λ s b. fit_by s b ls)
  where
    rest : Cases
    rest = cases_in ls

    int_case : (n : ℕ) (b : Bool) → list_any (nat_eq n) seen ≡ b → mark_of l.code ≡ mark.Case (literal.Int n) → ((s : List ℕ) (e : Bool) → cases_fit s e ls ≡ fits s e rest) → cases_fit seen d (l ∷ ls) ≡ fits seen d (cases_in (l ∷ ls))
    int_case n true known is more = rw (is, known) (fit_seen (list_all (is_other_case (literal.Int n)) rest.numbers) (plain_distinct rest.numbers) (list_all (unseen seen) rest.numbers) (nat_le (defaults_with d (0 + rest.defaults)) 1))
    int_case n false known is more =
        let whole : cases_fit (seen ++ n ∷ []) d ls ≡ ((plain_distinct rest.numbers && (list_all (is_other_case (literal.Int n)) rest.numbers && list_all (unseen seen) rest.numbers)) && nat_le (defaults_with d (0 + rest.defaults)) 1) = more (seen ++ n ∷ []) d ∙ (ap (λ b. (plain_distinct rest.numbers && b) && nat_le (defaults_with d rest.defaults) 1) (all_and (is_other_case (literal.Int n)) (unseen seen) (unseen (seen ++ n ∷ [])) (unseen_end seen n) rest.numbers) ∙ ap (λ m. (plain_distinct rest.numbers && (list_all (is_other_case (literal.Int n)) rest.numbers && list_all (unseen seen) rest.numbers)) && nat_le m 1) (sym (one_more d rest.defaults))) in
        rw (is, known) (whole ∙ fit_case true (list_all (is_other_case (literal.Int n)) rest.numbers) (plain_distinct rest.numbers) (list_all (unseen seen) rest.numbers) (nat_le (defaults_with d (0 + rest.defaults)) 1) refl)

    default_case : (e : Bool) → d ≡ e → mark_of l.code ≡ mark.Default → ((s : List ℕ) (b : Bool) → cases_fit s b ls ≡ fits s b rest) → cases_fit seen d (l ∷ ls) ≡ fits seen d (cases_in (l ∷ ls))
    default_case true had is more = rw (is, had) (sym (ap (λ b. (plain_distinct rest.numbers && list_all (unseen seen) rest.numbers) && b) (two_defaults rest.defaults) ∙ and_false (plain_distinct rest.numbers && list_all (unseen seen) rest.numbers)))
    default_case false had is more = rw (is, had) (more seen true ∙ ap (λ m. (plain_distinct rest.numbers && list_all (unseen seen) rest.numbers) && nat_le m 1) (one_first rest.defaults))

    by : (m : Mark) → mark_of l.code ≡ m → ((s : List ℕ) (b : Bool) → cases_fit s b ls ≡ fits s b rest) → cases_fit seen d (l ∷ ls) ≡ fits seen d (cases_in (l ∷ ls))
    by (mark.Case (literal.Int n)) is more = int_case n (list_any (nat_eq n) seen) refl is more
    by (mark.Case (literal.Unsigned n)) is more = rw is refl
    by (mark.Case (literal.Long n)) is more = rw is refl
    by mark.Default is more = default_case d refl is more
    by mark.None is more = rw is (more seen d)

all_unseen : (ns : List CNumber) → (plain_distinct ns && list_all (unseen []) ns) ≡ plain_distinct ns
all_unseen [] = refl
all_unseen (literal.Int n ∷ ns) = drop_plain (list_all (is_other_case (literal.Int n)) ns) (plain_distinct ns) (list_all (unseen []) ns) (all_unseen ns)
  where
    drop_plain : (o p u : Bool) → (p && u) ≡ p → ((o && p) && u) ≡ (o && p)
    drop_plain true p u is = is
    drop_plain false p u is = refl
all_unseen (literal.Unsigned n ∷ ns) = refl
all_unseen (literal.Long n ∷ ns) = refl

-- The cases of a `switch` fit where those of its statements do.
pub cases_formed : (s : Bool) (code : Code) → formed_cases (cases_of code) ≡ cases_fit [] false (lines_of false s code)
cases_formed s code = ap formed_cases (cases_listed s code) ∙ (ap (λ b. b && nat_le (cases_in (lines_of false s code)).defaults 1) (sym (all_unseen (cases_in (lines_of false s code)).numbers)) ∙ sym (fit_by [] false (lines_of false s code)))
