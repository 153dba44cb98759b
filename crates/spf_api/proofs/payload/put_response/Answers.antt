use Rattle.spf_api.proofs.Written.{context_put, bundles_put, jwt_svids_put, jwt_bundles_put}
use Rattle.spf_api.proofs.Written.{validation_put}
use Rattle.spf_api.proofs.payload.put_response.Goals as goal

pub returns-in-Context : goal.returns-in-Context
returns-in-Context c =
    rw c.in-Context.is
    (context_put c.put_context.result c.in-Context.context c.args.out.now.items
    c.put_context.new.out.items c.put_context.ensures.fits c.put_context.ensures.octets)

pub returns-in-Bundles : goal.returns-in-Bundles
returns-in-Bundles c =
    let put = c.put_list in
    rw c.in-Bundles.is
    (bundles_put put.result c.in-Bundles.bundles c.args.out.now.items put.new.out.items
    (rw c.as_slice.ensures at put.ensures.fits) (rw c.as_slice.ensures at put.ensures.octets))

pub returns-in-JwtSvids : goal.returns-in-JwtSvids
returns-in-JwtSvids c =
    let put = c.put_list-in-JwtSvids in
    let slice = c.as_slice-in-JwtSvids in
    rw c.in-JwtSvids.is
    (jwt_svids_put put.result c.in-JwtSvids.svids c.args.out.now.items put.new.out.items
    (rw slice.ensures at put.ensures.fits) (rw slice.ensures at put.ensures.octets))

pub returns-in-JwtBundles : goal.returns-in-JwtBundles
returns-in-JwtBundles c =
    let put = c.put_list-in-JwtBundles in
    let slice = c.as_slice-in-JwtBundles in
    rw c.in-JwtBundles.is
    (jwt_bundles_put put.result c.in-JwtBundles.bundles c.args.out.now.items put.new.out.items
    (rw slice.ensures at put.ensures.fits) (rw slice.ensures at put.ensures.octets))

pub returns-in-Validation : goal.returns-in-Validation
returns-in-Validation c =
    let put = c.put_validation in
    rw c.in-Validation.is
    (validation_put put.result c.in-Validation.validation c.args.out.now.items put.new.out.items
    put.ensures.fits put.ensures.octets)
