use Rattle.std.proofs.Common.{◌≡◌, List, Option, ap, ◌∙◌, subst, sym}
use Rattle.record_locks.specs.Own.{IsOnly, relocked}
use Rattle.record_locks.specs.declared.state.ByteRange.{ByteRange}
use Rattle.record_locks.specs.declared.state.LockKind.{LockKind}
use Rattle.record_locks.specs.declared.state.OwnLock.{OwnLock}
use Rattle.record_locks.proofs.OwnLocks.{only_maximal, relocked_kind, relocked_maximal, relocked_only}
use Rattle.record_locks.proofs.own.LockList.set.Goals as goal

-- the locks that were made, of those that were seen
told : (new seen old : List OwnLock) (wanted : Option LockKind) (r : ByteRange) → new ≡ relocked seen wanted r → seen ≡ old → new ≡ relocked old wanted r
told new seen old wanted r e f = e ∙ ap (λ ls. relocked ls wanted r) f

pub returns-in_err-self-inside-clause-only : goal.returns-in_err-self-inside-clause-only
returns-in_err-self-inside-clause-only c = subst IsOnly c.self.view_is (only_maximal c.self.inside.locks.items c.self.invariant)

pub invariant_of-self : goal.invariant_of-self
invariant_of-self c =
    let e = told _ _ _ _ _ c.in_ok-self-inside.ensures c.deref.ensures.value in
    rw e (relocked_maximal c.self.inside.locks.items c.args.wanted c.args.range c.requires c.self.invariant)

pub returns-clause-bytes : goal.returns-clause-bytes
returns-clause-bytes c =
    let e = told _ _ _ _ _ c.in_ok-self-inside.ensures c.deref.ensures.value in
    λ byte. rw (e, ← c.self.view_is) (relocked_kind c.self.inside.locks.items c.args.wanted c.args.range byte c.requires c.self.invariant)

pub returns-clause-maximal : goal.returns-clause-maximal
returns-clause-maximal c =
    let e = told _ _ _ _ _ c.in_ok-self-inside.ensures c.deref.ensures.value in
    rw e (relocked_maximal c.self.inside.locks.items c.args.wanted c.args.range c.requires c.self.invariant)

pub returns-clause-only : goal.returns-clause-only
returns-clause-only c =
    let e = told _ _ _ _ _ c.in_ok-self-inside.ensures c.deref.ensures.value in
    subst IsOnly (sym e) (relocked_only c.self.inside.locks.items c.args.wanted c.args.range c.requires c.self.invariant)
