use Rattle.std.proofs.Common.{arith, sym, ◌∙◌}
use Rattle.std.proofs.lemmas.Result.{err_from_is_err_and}
use Rattle.segments.proofs.Bodies.{is_body_fault, page_kind, region_kind, clut_kind, object_kind, display_kind, region_is, region_found, object_found, object_fault, display_found}
use Rattle.segments.proofs.reading.by_kind.Goals as goal

pub returns-in_err-page_of-in-16-clause-fault : goal.returns-in_err-page_of-in-16-clause-fault
returns-in_err-page_of-in-16-clause-fault c =
    let p = err_from_is_err_and c.from_residual.result c.from_residual.ensures.1 in
    rw (p.1, p.2)
    (is_body_fault c.args.kind c.args.body.now _ _ _ (page_kind _ _ c.in-16.is) c.in_err-page_of-in-16.ensures)

pub returns-in_err-region_of-in-17-clause-fault : goal.returns-in_err-region_of-in-17-clause-fault
returns-in_err-region_of-in-17-clause-fault c =
    let p =
    err_from_is_err_and c.from_residual-in_err-region_of-in-17.result
    c.from_residual-in_err-region_of-in-17.ensures.1 in
    rw (p.1, p.2)
    (is_body_fault c.args.kind c.args.body.now _ _ _ (region_kind _ _ c.in-17.is)
    (sym (region_is _) ∙ c.in_err-region_of-in-17.ensures))

pub returns-in_err-clut_of-in-18-clause-fault : goal.returns-in_err-clut_of-in-18-clause-fault
returns-in_err-clut_of-in-18-clause-fault c =
    let p =
    err_from_is_err_and c.from_residual-in_err-clut_of-in-18.result c.from_residual-in_err-clut_of-in-18.ensures.1
    in
    rw (p.1, p.2)
    (is_body_fault c.args.kind c.args.body.now _ _ _ (clut_kind _ _ c.in-18.is) c.in_err-clut_of-in-18.ensures)

pub returns-in_err-object-in-19-clause-fault : goal.returns-in_err-object-in-19-clause-fault
returns-in_err-object-in-19-clause-fault c =
    let p =
    err_from_is_err_and c.from_residual-in_err-object-in-19.result c.from_residual-in_err-object-in-19.ensures.1 in
    rw (p.1, p.2)
    (is_body_fault c.args.kind c.args.body.now _ _ _ (object_kind _ _ c.in-19.is)
    c.in_err-object-in-19.ensures.exact)

pub returns-in_err-display_of-in-20-clause-fault : goal.returns-in_err-display_of-in-20-clause-fault
returns-in_err-display_of-in-20-clause-fault c =
    let p =
    err_from_is_err_and c.from_residual-in_err-display_of-in-20.result
    c.from_residual-in_err-display_of-in-20.ensures.1 in
    rw (p.1, p.2)
    (is_body_fault c.args.kind c.args.body.now _ _ _ (display_kind _ _ c.in-20.is)
    c.in_err-display_of-in-20.ensures)

pub check_blocks-requires : goal.check_blocks-requires
check_blocks-requires c = omega (arith, c.in_ok-object-in-19.ensures.room)

pub returns-in_err-check_blocks-in-19-clause-fault : goal.returns-in_err-check_blocks-in-19-clause-fault
returns-in_err-check_blocks-in-19-clause-fault c =
    let p =
    err_from_is_err_and c.from_residual-in_err-check_blocks-in-19.result
    c.from_residual-in_err-check_blocks-in-19.ensures.1 in
    rw (p.1, p.2)
    (object_fault c.args.kind c.args.body.now _ _ c.in-19.is c.in_ok-object-in-19.ensures.exact
    c.in_err-check_blocks-in-19.ensures.fault)

pub returns-in_ok-region_of-in-17-clause-value : goal.returns-in_ok-region_of-in-17-clause-value
returns-in_ok-region_of-in-17-clause-value c =
    (region_found c.args.kind c.args.body.now _ c.in-17.is c.in_ok-region_of-in-17.ensures).0

pub returns-in_ok-region_of-in-17-clause-passes : goal.returns-in_ok-region_of-in-17-clause-passes
returns-in_ok-region_of-in-17-clause-passes c =
    (region_found c.args.kind c.args.body.now _ c.in-17.is c.in_ok-region_of-in-17.ensures).1

pub returns-in_ok-check_blocks-in-19-clause-passes : goal.returns-in_ok-check_blocks-in-19-clause-passes
returns-in_ok-check_blocks-in-19-clause-passes c =
    (object_found c.args.kind c.args.body.now _ c.in-19.is c.in_ok-object-in-19.ensures.exact).1

pub returns-in_ok-display_of-in-20-clause-value : goal.returns-in_ok-display_of-in-20-clause-value
returns-in_ok-display_of-in-20-clause-value c =
    (display_found c.args.kind c.args.body.now _ c.in-20.is c.in_ok-display_of-in-20.ensures).0

pub returns-in_ok-display_of-in-20-clause-passes : goal.returns-in_ok-display_of-in-20-clause-passes
returns-in_ok-display_of-in-20-clause-passes c =
    (display_found c.args.kind c.args.body.now _ c.in-20.is c.in_ok-display_of-in-20.ensures).1
