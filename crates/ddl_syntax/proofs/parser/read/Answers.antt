use Rattle.std.proofs.Common.{rules, refl, arith, Err}
use Rattle.ddl_states.specs.Gives.{state_of}
use Rattle.ddl_syntax.specs.Parses.{Parses}
use Rattle.ddl_syntax.proofs.HeightsTwice.{room}
use Rattle.ddl_syntax.proofs.Stands.{ended, stands_next, stopped}
use Rattle.ddl_syntax.proofs.parser.read.Goals as goal

pub advance-requires : goal.advance-requires
advance-requires c = room (state_of c.loop-k.stack c.loop-k.focus) c.loop-k.invariant.1

pub returns-in_err-focus : goal.returns-in_err-focus
returns-in_err-focus c =
    let stop : Parses c.args.«module» c.args.tokens.now (Err c.in_err-focus.field-0.0) =
    stopped c.args.«module» c.loop-k.k _ c.args.tokens.now c.index-tokens-k.result (state_of c.loop-k.stack c.loop-k.focus) c.in_err-focus.field-0.0
    c.advance.new.stack refl c.loop-k-test.true c.index-tokens-k.is c.loop-k.invariant c.in_err-focus.ensures in
    search rules

pub loop-k-preserved : goal.loop-k-preserved
loop-k-preserved c =
    let goes = c.in_ok-focus.ensures in
    stands_next c.args.«module» c.loop-k.k c.args.tokens.now c.index-tokens-k.result (state_of c.loop-k.stack c.loop-k.focus)
    (state_of c.advance.new.stack c.in_ok-focus.focus) c.loop-k-test.true c.index-tokens-k.is c.loop-k.invariant goes.0 goes.1

pub complete-requires : goal.complete-requires
complete-requires c = room (state_of c.loop-k.stack c.loop-k.focus) c.loop-k.invariant.1

pub returns : goal.returns
returns c =
    ended c.args.«module» c.loop-k.k _ c.args.tokens.now (state_of c.loop-k.stack c.loop-k.focus) c.complete.result
    (omega (arith, c.loop-k-test.false, c.loop-k.auto.k-end)) refl c.loop-k.invariant c.complete.ensures
