pub mod Prelude
pub mod FirstBadLine
pub mod Certificates
pub mod Games
pub mod Logs
pub use Rattle.reading_laws.specs.FirstBadLine.{BeginsText, IsFirstBadLine, lines_with_ends, with_ends}
pub use Rattle.reading_laws.specs.Prelude.{AccountFile, BadLine, CertFault, GameFile, IsLoggedScore, LoggedGame, NumberedLine, Play, Reason, Remaining, Serve, Spelling, TEXT_BYTES, TextEnd, Tree, Trees, account_lines, at_line, begins, begins_in, block_by, block_in, block_of, cert_by, cert_line, cert_text, due_of, end_of_words, first_is, first_number, flight_part, forest_by, forest_lines, formed, game_lines, head_by, header_text, is_comment, is_served, is_text, leaf, line_by, lines_from, link_of_words, more, no_trees, node_by, nothing_left, or_game_fault, owned_part, package_line, parts_of, quiet_client, quiet_flight, read_by, reason_number, refused_line, served_in, split, text_of, tree_lines, words_of, ◌>>=◌}
unfoldable pub use Rattle.reading_laws.specs.Prelude.{account_in, account_of, as_long_as, auction_of, cash_entry_of, cash_in, cert_in, cert_of, entry_in, game_in, game_of, head_in, header_of, history_in, hold_of, log_in, log_of, numeral, owned_of, package_of, quiet_game, read_cash_line, read_count, read_end, read_end_line, read_entry, read_link, read_missed, read_score, repeat, root_in, row, score_in, signed_numeral, title_of, trade_of, tree_in}
