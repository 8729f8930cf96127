-- `put_bodies::put_mpid` meets its contract.
use Rattle.put_bodies.proofs.Orders.{put-none, put_some}
use Rattle.put_bodies.proofs.put_mpid.Goals as goal

pub returns-in_default : goal.returns-in_default
returns-in_default c = put-none c.args.buf.now c.args.mpid c.in_default.is

pub returns-in-Some : goal.returns-in-Some
returns-in-Some c =
    let a = c.args in
    put_some a.buf.now a.mpid c.in-Some.v c.in-Some.is (c.set.ensures.buf_after, c.set.ensures.v_bound)
