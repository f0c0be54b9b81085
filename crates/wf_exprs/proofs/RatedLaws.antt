-- What a literal is recast to, and every other expression.
use Rattle.std.proofs.Common.{◌≡◌, ℕ, Some, None, refl, ap}
use Rattle.c_text.specs.declared.kinds.CNumber.TheVariants as literals
use Rattle.c_text.specs.CTree.{ExprTree, number, variable, member, element, pointed, operation, unary, cast, choice, called}
use Rattle.wf_exprs.specs.Words.{uint_of}
use Rattle.wf_exprs.specs.Exprs.{calculated, suffixed, recast}
use Rattle.wf_exprs.specs.Making.{small_number}

pub recast_literal : (bits : ℕ) (e : ExprTree) (n : ℕ) → small_number e ≡ Some n → recast bits e ≡ number (suffixed (calculated bits) n)
recast_literal bits (number (literals.Int m)) n h = let same : m ≡ n = cc h in ap (λ k. number (suffixed (calculated bits) k)) same
recast_literal bits (number (literals.Unsigned m)) n h = let same : m ≡ n = cc h in ap (λ k. number (suffixed (calculated bits) k)) same
recast_literal bits (number (literals.Long m)) n h = absurd (cc h)
recast_literal bits (variable name) n h = absurd (cc h)
recast_literal bits (member of name) n h = absurd (cc h)
recast_literal bits (element of at) n h = absurd (cc h)
recast_literal bits (pointed of) n h = absurd (cc h)
recast_literal bits (operation op first second others) n h = absurd (cc h)
recast_literal bits (unary op of) n h = absurd (cc h)
recast_literal bits (cast to of) n h = absurd (cc h)
recast_literal bits (choice test met unmet) n h = absurd (cc h)
recast_literal bits (called function given) n h = absurd (cc h)

pub recast_other : (bits : ℕ) (e : ExprTree) → small_number e ≡ None → recast bits e ≡ cast (uint_of bits) e
recast_other bits (number (literals.Int m)) h = absurd (cc h)
recast_other bits (number (literals.Unsigned m)) h = absurd (cc h)
recast_other bits (number (literals.Long m)) h = refl
recast_other bits (variable name) h = refl
recast_other bits (member of name) h = refl
recast_other bits (element of at) h = refl
recast_other bits (pointed of) h = refl
recast_other bits (operation op first second others) h = refl
recast_other bits (unary op of) h = refl
recast_other bits (cast to of) h = refl
recast_other bits (choice test met unmet) h = refl
recast_other bits (called function given) h = refl
