-- Each `goto` of a text leads to a label after it.
use Rattle.std.proofs.Common.{◌≡◌, ℕ, zero, suc, true, List, [], ◌∷◌, Option, Some, subst}
use Rattle.std.specs.Prelude.{nat_lt, length, slice_get}
use Rattle.std.specs.List.{list_all}
use Rattle.wf_ast.specs.TypedPackage.{MethodTree, PackageTree, package_of}
use Rattle.wf_ast.specs.WellTyped.{may_be_arg, may_be_local, may_be_result, answers_always, well_block, well_method, well_typed}
use Rattle.wf_ast.proofs.Arena.{both_true}
use Rattle.wf_meaning.specs.Remaining.{number_of}
use Rattle.c_text.specs.CTree.{Code, finish, jump}
use Rattle.c_meaning.specs.CStep.{stop, Place, at, by_name, find}
use Rattle.wf_lower_stmts.specs.Forms.{Form, form_of}
use Rattle.wf_lower_stmts.specs.Lower.{top}
use Rattle.wf_lower.specs.Bodies.{body_code, own_names, touched, body_function, entry_code}
use Rattle.wf_lower.specs.Unit.{initialize_code, lowered_unit}
use Rattle.wf_lower_laws.specs.JumpLaw.{LeadForward, JumpsForward, TextsJumpForward}
use Rattle.wf_lower_laws.proofs.Straight.{Straight, leaving, over}
use Rattle.wf_lower_laws.proofs.Everywhere.{Everywhere, everywhere_at, straight_everywhere}
use Rattle.wf_lower_laws.proofs.Loops.{whole}
use Rattle.wf_lower_laws.proofs.Bodies.{entry_straight, initialize_straight}
use Rattle.wf_lower_laws.proofs.Functions.{body_finds, body_everywhere}
use Rattle.wf_lower_laws.proofs.Jumps.{Leads, leads_easy, block_leads}
use Rattle.wf_lower_laws.proofs.Numbers.{HasLoops, has_loops, are_spelt}
use Rattle.wf_lower_laws.proofs.Items.{each_at, in_unit}

-- A function whose statements lead so.
forward : (body : Code) → Everywhere (Leads (λ name. find (by_name name) body stop)) body stop → LeadForward body
forward body h number label rest k e = everywhere_at (Leads (λ name. find (by_name name) body stop)) body stop h number (at (jump label rest) k) e

pub straight_forward : (body : Code) → Straight finish body → LeadForward body
straight_forward body s = forward body (straight_everywhere (Leads (λ name. find (by_name name) body stop)) (leads_easy (λ name. find (by_name name) body stop)) finish body s stop tt)

-- What well_typed says of a method.
pub method_rules : (p : PackageTree) (ms : List MethodTree) (i : ℕ) (m : MethodTree) → list_all (well_method p) ms ≡ true → slice_get ms i ≡ Some m → well_method p m ≡ true
method_rules p [] i m h e = absurd (cc e)
method_rules p (x ∷ ms) zero m h e =
    let same : x ≡ m = cc e in
    let P : MethodTree → Type 0 = λ m. well_method p m ≡ true in
    subst P same (both_true (well_method p x) (list_all (well_method p) ms) h).0
method_rules p (x ∷ ms) (suc i) m h e = method_rules p ms i m (both_true (well_method p x) (list_all (well_method p) ms) h).1 e

pub all_methods : (p : PackageTree) → well_typed p ≡ true → list_all (well_method p) p.methods ≡ true
unfolding well_typed
all_methods p h = (both_true _ _ (both_true _ _ h).1).0

pub block_rules : (p : PackageTree) (m : MethodTree) → well_method p m ≡ true → well_block (record { within = p; method = m }) [] m.body ≡ true
block_rules p m h =
    (both_true (answers_always m.mark m.gives m.body) _
    (both_true (may_be_result m.mark m.gives) _
    (both_true (list_all (λ x. may_be_local x.ty) m.locals) _ (both_true (list_all (λ x. may_be_arg x.ty) m.args) _ (both_true (nat_lt m.of (length p.structs)) _ h).1).1).1).1).1

abbrev pub body_of : Form → Code
body_of f = touched (own_names f) (body_code f) (body_code f)

abbrev pub look_in : Code → List ℕ → Option Place
look_in code name = find (by_name name) code stop

pub body_forward : (p : PackageTree) (m : MethodTree) → well_method p m ≡ true → HasLoops m.body → JumpsForward (body_function (form_of p m))
body_forward p m h l =
    let f = form_of p m in
    let look = look_in (body_of f) in
    forward (body_of f) (body_everywhere (Leads look) (leads_easy look) f (λ on. tt) (own_names f) (body_code f)
    (block_leads f (number_of m.body) (record { within = p; method = m }) m.body look (λ name. body_finds f name (own_names f) (body_code f)) l.small (are_spelt m.body l.small) m.body top
    (record { breaking = whole _ _ _ _ m.body l.apart; continuing = whole _ _ _ _ m.body l.apart }) (block_rules p m h)))

pub texts_jump_forward : TextsJumpForward
texts_jump_forward nodes typed number item e =
    let p = package_of nodes in
    each_at JumpsForward (lowered_unit p) (in_unit JumpsForward p (record {
      buffer = tt;
      structs = λ s. tt;
      texts = λ n bytes. tt;
      helpers = λ sum bits. straight_forward _ (leaving _ _ over);
      inits = λ s. straight_forward (initialize_code p s) (initialize_straight p s);
      bodies = λ n m is. body_forward p m (method_rules p p.methods n m (all_methods p typed.rules) is) (has_loops nodes n m typed is);
      entries = λ n m is. straight_forward (entry_code p n m) (entry_straight p n m);
    })) number item e
