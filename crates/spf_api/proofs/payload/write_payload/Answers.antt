use Rattle.spf_api.proofs.Written.{alone}
use Rattle.spf_api.proofs.payload.write_payload.Goals as goal

pub returns : goal.returns
returns c =
    alone c.args.response.now c.put_response.new.out.items
    (rw c.new-out.ensures.items at c.in_ok-put_response.ensures)
