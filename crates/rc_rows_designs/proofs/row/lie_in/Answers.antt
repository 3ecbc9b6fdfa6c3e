use Rattle.std.proofs.Common.{arith, subst}
use Rattle.std.proofs.lemmas.List.{take_all}
use Rattle.std.proofs.lemmas.List.Elements.{All-more}
use Rattle.std.specs.Prelude.{All}
use Rattle.rc_keys.specs.declared.token.Kind.TheVariants as kinds
use Rattle.rc_keys.specs.declared.token.Token.{Token}
use Rattle.rc_keys.specs.Slices.{LiesIn}
use Rattle.rc_rows_designs.proofs.row.lie_in.Goals as goal

pub loop-token-preserved : goal.loop-token-preserved
loop-token-preserved c =
    let none : Token = record { kind = kinds.Word; start = 0; end = 0; line = 0 } in
    All-more (LiesIn c.args.text.now) c.args.tokens.now c.loop-token.token-index none (omega arith) c.loop-token.invariant (c.if-token.false, c.if-token-text.false)

pub returns : goal.returns
returns c = λ t. subst (λ xs. All (LiesIn c.args.text.now) xs) (take_all c.loop-token.token-index c.args.tokens.now (omega arith)) c.loop-token.invariant
