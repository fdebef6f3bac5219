-- `checks::arguments_ok` meets its contract.
use mathlib.Core.Path.{refl}
use borrow.Author.Tests.{le-leb, lt-leb}
use Rattle.calls.specs.Calls.{facts_of}
use Rattle.checks.proofs.Places.{arguments_are}
use Rattle.checks.proofs.arguments_ok.Goals as goal

pub returns-then-call-facts : goal.returns-then-call-facts
unfolding facts_of
returns-then-call-facts c =
    let x = c.args.call in
    rw (← (arguments_are c.args.rules x.code x.a x.b), ← c.is_call.ensures, c.if-is_call.true, c.facts_of-facts.ensures, le-leb _ _ (rw c.facts_of-facts.ensures at c.if-call-facts.true)) refl

pub returns-else-call-facts : goal.returns-else-call-facts
unfolding facts_of
returns-else-call-facts c =
    let x = c.args.call in
    rw (← (arguments_are c.args.rules x.code x.a x.b), ← c.is_call.ensures, c.if-is_call.true, c.facts_of-facts.ensures, lt-leb _ _ (rw c.facts_of-facts.ensures at c.if-call-facts.false)) refl

pub returns-else-is_call : goal.returns-else-is_call
returns-else-is_call c =
    let x = c.args.call in
    rw (← (arguments_are c.args.rules x.code x.a x.b), ← c.is_call.ensures, c.if-is_call.false) refl
